use Rattle.std.proofs.Common.{◌≡◌, ◌*◌, ◌<◌, ◌≤◌, length, get_or, replicate, refl, ap, ◌∙◌, ⊎_elim, arith}
use Rattle.std.proofs.lemmas.List.{length-replicate, get_or-replicate}
use Rattle.floor.proofs.HallFacts.{factors, size_fits, size_none, size_over, filled_meaning}
use Rattle.floor.proofs.hall.Hall.make.Goals as goal

pub returns-then-size-eq0 : goal.returns-then-size-eq0
returns-then-size-eq0 c =
    (⊎_elim (λ e. size_none c.args.rows c.args.columns (omega arith)) (λ e. size_over c.args.rows c.args.columns (omega arith)) c.then-size-eq0.either, refl)

pub invariant_of-result : goal.invariant_of-result
invariant_of-result c =
    let f = factors c.args.rows c.args.columns (omega arith) in
    let fits : c.args.rows * c.args.columns ≤ 1024 = omega arith in
    let e = c.filled.ensures in
    record {
      tall = f.left;
      wide = f.right;
      few = fits;
      full = ap length e ∙ length-replicate 1024 c.value.result;
      above = λ k h. let q : get_or c.filled.result.tolls k 0 ≡ c.value.result = ap (λ ts. get_or ts k 0) e ∙ get_or-replicate 1024 k c.value.result 0 (omega arith) in omega arith;
    }

pub returns : goal.returns
returns c =
    let n : 0 < c.args.rows * c.args.columns = omega arith in
    let fits : c.args.rows * c.args.columns ≤ 1024 = omega arith in
    (size_fits c.args.rows c.args.columns n fits, filled_meaning c.args.rows c.args.columns c.args.least c.filled.result.tolls fits (c.filled.ensures ∙ ap (replicate 1024) c.value.ensures))
