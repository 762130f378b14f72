use Rattle.std.proofs.Common.{◌-◌, min, refl, sym, ap, ◌∙◌, subst, arith, rules}
use Rattle.lattice.specs.Space.{In}
use Rattle.scene.specs.Standing.{bodies_after, last_body}
use Rattle.scene.specs.Laws.{last_lawful, all_lawful}
use Rattle.scene.proofs.Takes.{some_laid, one_of_two, ends_in_join, ends_in_shift, ends_in_thickening}
use Rattle.scene.proofs.table.Table.+ask.Goals as goal

pub ask-overflow_sub-last : goal.ask-overflow_sub-last
ask-overflow_sub-last t c = some_laid _ _ c.requires.stands

pub ask-last_of-requires-clause-some : goal.ask-last_of-requires-clause-some
ask-last_of-requires-clause-some t c = some_laid _ _ c.requires.stands

pub ask-ask_joined-requires : goal.ask-ask_joined-requires
ask-ask_joined-requires t c =
    let h = some_laid _ _ c.requires.stands in
    (search rules, (c.requires.laid, (c.requires.stands, (c.requires.near, (rw c.in-Joined.is at c.last_of.ensures.made, rw c.in-Joined.is at c.last_of.ensures.fit)))))

pub ask_joined-overflow_sub-last : goal.ask_joined-overflow_sub-last
ask_joined-overflow_sub-last t c = some_laid _ _ c.requires.stands

pub ask_joined-ask-right-requires : goal.ask_joined-ask-right-requires
ask_joined-ask-right-requires t c =
    let u = ends_in_join _ _ _ c.requires.made c.requires.fit c.args.p.now c.requires.near c.args.join refl in
    let h = some_laid _ _ c.requires.stands in
    (search rules, (omega arith, (u.stands, u.right)))

pub ask_joined-start_of-middle-requires-clause-some : goal.ask_joined-start_of-middle-requires-clause-some
ask_joined-start_of-middle-requires-clause-some t c =
    some_laid _ (c.args.end - 1) (one_of_two _ c.requires.fit)

pub ask-ask-requires : goal.ask-ask-requires
ask-ask-requires t c =
    let e = c.last_of.ensures in
    let u = ends_in_shift _ _ _ e.made e.fit c.args.p.now c.requires.near c.in-Shift.by c.in-Shift.is in
    let h = some_laid _ _ c.requires.stands in
    let b = last_body c.args.self.now.nodes.items (c.args.end - 1) in
    (search rules, (omega arith, (u.stands, subst (In b.reach) (sym (c.wrapping_sub.ensures.held u.fits)) u.below)))

pub ask-returns-in-Shift : goal.ask-returns-in-Shift
ask-returns-in-Shift t c =
    let e = c.last_of.ensures in
    let u = ends_in_shift _ _ _ e.made e.fit c.args.p.now c.requires.near c.in-Shift.by c.in-Shift.is in
    let b = last_body c.args.self.now.nodes.items (c.args.end - 1) in
    c.ask.ensures ∙ ap (min c.args.most) (ap b.clear (c.wrapping_sub.ensures.held u.fits) ∙ sym u.clear)

pub ask-ask-clear-requires : goal.ask-ask-clear-requires
ask-ask-clear-requires t c =
    let e = c.last_of.ensures in
    let u = ends_in_thickening _ _ _ e.made e.fit c.args.p.now c.requires.near c.in-Thicken.by c.in-Thicken.is in
    let h = some_laid _ _ c.requires.stands in
    (search rules, (omega arith, (u.stands, u.near)))

pub ask-returns-in-Thicken : goal.ask-returns-in-Thicken
ask-returns-in-Thicken t c =
    let e = c.last_of.ensures in
    let u = ends_in_thickening _ _ _ e.made e.fit c.args.p.now c.requires.near c.in-Thicken.by c.in-Thicken.is in
    let ns = c.args.self.now.nodes.items in
    let k = c.args.end - 1 in
    let n = (last_lawful (bodies_after ns k) (all_lawful ns k)).small c.args.p.now u.near in
    omega (arith, c.saturating_sub.ensures, c.ask-clear.ensures, c.saturating_add.ensures, u.clear, n)
