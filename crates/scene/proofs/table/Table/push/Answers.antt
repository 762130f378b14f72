use Rattle.std.proofs.Common.{◌<◌, ◌≢◌, length, sym, ◌∙◌, ap₂, subst, arith, get_or-set_other, get_or-set_same, below_more}
use Rattle.scene.specs.declared.node.Join.TheVariants.{Unite}
use Rattle.scene.specs.declared.node.Node.TheVariants.{Joined}
use Rattle.scene.specs.Standing.{with_node, can_take, IsStart}
use Rattle.scene.proofs.FirstEntries.{fold_first-kept, fold_first-push}
use Rattle.scene.proofs.Starts.{start_kept, start_pushed}
use Rattle.scene.proofs.table.Table.push.Goals as goal

pub invariant_of-self : goal.invariant_of-self
invariant_of-self c =
    let t = c.args.self.now in
    let ns = t.nodes.items in
    let n = t.nodes.height in
    let x = c.args.node in
    let b = c.start_with.result in
    let l : n < length ns = omega arith in
    let m : n < length t.starts = omega arith in
    rw (c.push.ensures.put, c.push.ensures.counted) (record {
      count_in_range = omega arith;
      each_can_take = below_more _ n
          (λ k h. let ne : k ≢ n = omega arith in ap₂ can_take (get_or-set_other ns n k x (Joined Unite) ne) (fold_first-kept with_node _ (Joined Unite) ns n x k (omega arith)) ∙ t.each_can_take k h)
          (ap₂ can_take (get_or-set_same ns n x (Joined Unite) l) (fold_first-kept with_node _ (Joined Unite) ns n x n (omega arith)) ∙ c.requires.fit);
      are_starts = below_more _ n
          (λ k h. let ne : k ≢ n = omega arith in subst (IsStart _ k) (sym (get_or-set_other t.starts n k b 0 ne)) (start_kept ns n x k _ h (t.are_starts k h)))
          (subst (IsStart _ n) (sym (get_or-set_same t.starts n b 0 m)) (start_pushed ns n x b l c.start_with.ensures.earlier c.start_with.ensures.before));
    })

pub returns : goal.returns
returns c =
    let ns = c.args.self.now.nodes.items in
    let n = c.args.self.now.nodes.height in
    let l : n < length ns = omega arith in
    record {
      counted =
          c.push.ensures.counted;
      made = rw (c.push.ensures.put, c.push.ensures.counted) (fold_first-push with_node _ (Joined Unite) ns n c.args.node l);
    }
