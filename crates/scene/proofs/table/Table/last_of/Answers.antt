use Rattle.std.proofs.Common.{◌-◌, ◌<◌, length, sym, ap, ◌∙◌, arith}
use Rattle.std.proofs.lemmas.List.{get_or_default}
use Rattle.scene.specs.declared.node.Join.TheVariants.{Unite}
use Rattle.scene.specs.declared.node.Node.TheVariants.{Joined}
use Rattle.scene.specs.Standing.{with_node, can_take, bodies_after}
use Rattle.scene.proofs.FirstEntries.{fold_first-last}
use Rattle.scene.proofs.table.Table.last_of.Goals as goal

pub returns : goal.returns
returns c =
    let ns = c.args.self.now.nodes.items in
    let k = c.args.end - 1 in
    let l : k < length ns = omega arith in
    let e = get_or_default ns k (Joined Unite) c.index-self-end.result l in
    record {
      made =
          fold_first-last with_node _ (Joined Unite) ns c.args.end c.requires.some ∙ ap (λ n. with_node n (bodies_after ns k)) e;
      fit = ap (λ n. can_take n (bodies_after ns k)) (sym e) ∙ c.args.self.now.each_can_take k (omega arith);
    }
