use Rattle.std.proofs.Common.{true, is_some, sym, refl, ap, ◌∙◌}
use Rattle.std.proofs.lemmas.Bool.{cond-true, cond-false}
use Rattle.std.proofs.lemmas.List.{get_or_default}
use Rattle.tree.specs.Tree.{entry_of, opened_if}
use Rattle.tree.specs.declared.record.Record.{Record}
use Rattle.tree.proofs.Altering.{map_alter, map_kept, map_past, map_stays}
use Rattle.tree.proofs.Marks.{mark_of}
use Rattle.tree.proofs.table.open.Goals as goal
use Rattle.tree.proofs.table.open.Goals.{else-at-table-via-then-at-table+else-is_some, else-at-table-via-else-at-table}

pub returns-then-is_some-clause-entries : goal.returns-then-is_some-clause-entries
returns-then-is_some-clause-entries g c =
    let d = c.index-table-at.result in let k = c.index-table-at-then-is_some.result in
    let e = ap (λ (r : Record _). is_some r.toll) (get_or_default c.args.table.now c.args.place d k c.if-at-table.true) in
    map_alter entry_of c.args.table.now c.args.place (opened_if true) k _ c.if-at-table.true (sym (cond-true _ _ _ (sym e ∙ sym c.is_some.ensures ∙ c.if-is_some.true)))

pub returns-then-is_some-clause-marks : goal.returns-then-is_some-clause-marks
returns-then-is_some-clause-marks g c = map_kept mark_of c.args.table.now c.args.place c.index-table-at-then-is_some.result _ c.if-at-table.true refl

pub returns-else-at-table-clause-entries : goal.returns-else-at-table-clause-entries
returns-else-at-table-clause-entries g c =
    elim c.else-at-table.branch [
      | else-at-table-via-then-at-table+else-is_some w ↦
          map_stays entry_of c.args.table.now c.args.place (opened_if true) w.index-table-at.result w.if-at-table.true
          (sym (cond-false _ _ _ (sym w.is_some.ensures ∙ w.if-is_some.false)))
      | else-at-table-via-else-at-table w ↦ map_past entry_of c.args.table.now c.args.place (opened_if true) w.if-at-table.false
    ]
