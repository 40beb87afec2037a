use Rattle.std.proofs.Common.{ℕ, length, sym, ap, ◌∙◌, arith}
use Rattle.tree.specs.Tree.{tree_of}
use Rattle.astar.specs.Search.{Searched, seek}
use Rattle.tree.proofs.Entries.{tree_length}
use Rattle.astar.proofs.Running.{going_none, going_more, going_few, found, spent, solved_is, turns}
use Rattle.astar.proofs.search.search.Goals as goal

pub loop-chosen-init : goal.loop-chosen-init
loop-chosen-init g c = going_none g.met.T.Toll.lawful c.laws_hold.ensures c.args.from (tree_of c.args.table.now)

pub overflow_add-count : goal.overflow_add-count
overflow_add-count g c =
    let L = g.met.T.Toll.lawful in
    let u = turns L (g.F.Floor.meaning c.args.floor.now) c.args.from (tree_of c.loop-chosen.table) c.settles.ensures c.key_of.ensures c.toll_at.ensures c.choose-chosen.ensures c.in-Some.place c.in-Some.field-0-1 c.if-settles.false c.in-Some.is in
    let k = going_few L c.laws_hold.ensures c.args.from c.in-Some.place (tree_length c.args.table.now 0 ∙ c.requires) c.loop-chosen.invariant u.0 u.1 in
    omega (arith, c.laws_hold.ensures.few_places)

pub loop-chosen-smaller : goal.loop-chosen-smaller
loop-chosen-smaller g c =
    let L = g.met.T.Toll.lawful in
    let u = turns L (g.F.Floor.meaning c.args.floor.now) c.args.from (tree_of c.loop-chosen.table) c.settles.ensures c.key_of.ensures c.toll_at.ensures c.choose-chosen.ensures c.in-Some.place c.in-Some.field-0-1 c.if-settles.false c.in-Some.is in
    let k = going_few L c.laws_hold.ensures c.args.from c.in-Some.place (tree_length c.args.table.now 0 ∙ c.requires) c.loop-chosen.invariant u.0 u.1 in
    omega arith

pub loop-chosen-preserved : goal.loop-chosen-preserved
loop-chosen-preserved g c =
    let L = g.met.T.Toll.lawful in
    let u = turns L (g.F.Floor.meaning c.args.floor.now) c.args.from (tree_of c.loop-chosen.table) c.settles.ensures c.key_of.ensures c.toll_at.ensures c.choose-chosen.ensures c.in-Some.place c.in-Some.field-0-1 c.if-settles.false c.in-Some.is in
    going_more L c.laws_hold.ensures c.args.from c.in-Some.place c.loop-chosen.invariant u.0 u.1 c.expand.ensures

pub returns-then-settles : goal.returns-then-settles
returns-then-settles g c =
    let L = g.met.T.Toll.lawful in
    let E₀ = tree_of c.args.table.now in
    let u = solved_is L (g.F.Floor.meaning c.args.floor.now) c.args.from (tree_of c.loop-chosen.table) c.settles.ensures c.key_of.ensures c.toll_at.ensures c.choose-chosen.ensures in
    let n = tree_length c.args.table.now 0 in
    let r = ap (λ (k : ℕ). seek g.T.Toll.tolls (g.F.Floor.meaning c.args.floor.now) c.args.from k E₀) (sym n) ∙ found L c.laws_hold.ensures c.args.from (n ∙ c.requires) c.loop-chosen.invariant (sym u ∙ c.if-settles.true) in
    record {
      outcome = sym (ap (λ (s : Searched g.row.T.Denot). s.outcome) r);
      count = sym (ap (λ (s : Searched g.row.T.Denot). length s.expanded) r ∙ c.loop-chosen.invariant.steps);
      table = sym (ap (λ (s : Searched g.row.T.Denot). s.tree) r);
    }

pub returns-in_default : goal.returns-in_default
returns-in_default g c =
    let L = g.met.T.Toll.lawful in
    let E₀ = tree_of c.args.table.now in
    let u = solved_is L (g.F.Floor.meaning c.args.floor.now) c.args.from (tree_of c.loop-chosen.table) c.settles.ensures c.key_of.ensures c.toll_at.ensures c.choose-chosen.ensures in
    let n = tree_length c.args.table.now 0 in
    let r = ap (λ (k : ℕ). seek g.T.Toll.tolls (g.F.Floor.meaning c.args.floor.now) c.args.from k E₀) (sym n) ∙ spent L c.laws_hold.ensures c.args.from (n ∙ c.requires) c.loop-chosen.invariant (sym u ∙ c.if-settles.false) (sym c.choose-chosen.ensures ∙ c.in_default.is) in
    record {
      outcome = sym (ap (λ (s : Searched g.row.T.Denot). s.outcome) r);
      count = sym (ap (λ (s : Searched g.row.T.Denot). length s.expanded) r ∙ c.loop-chosen.invariant.steps);
      table = sym (ap (λ (s : Searched g.row.T.Denot). s.tree) r);
    }
