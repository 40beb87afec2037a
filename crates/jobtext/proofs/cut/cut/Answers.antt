use Rattle.std.proofs.Common.{◌≡◌, ◌+◌, ◌==◌, List, ℕ, Some, sym, ap, ◌∙◌, rules}
use Rattle.std.proofs.lemmas.Iterator.{YieldsList-from_slice}
use Rattle.std.proofs.lemmas.Iterator.Search.{position_from_yields_List}
use Rattle.std.proofs.lemmas.List.{take_rest}
use Rattle.std.specs.List.{position}
use borrow.Author.Tests.{tests}
use Rattle.jobtext.proofs.CutFacts.{cut_found, cut_none}
use Rattle.jobtext.proofs.cut.cut.Goals as goal

pub returns-in-Some : goal.returns-in-Some
returns-in-Some c =
    let found : c.position.result ≡ position (λ b. b == c.args.mark) c.args.text.now = position_from_yields_List (λ b. b == c.args.mark) _ _ c.position.result c.position.ensures.ran (YieldsList-from_slice c.args.text.now cc) (λ x b q k. search (rules, tests)) in
    let p = cut_found c.args.mark c.args.text.now c.in-Some.i (sym c.in-Some.is ∙ found) in
    record { before = p.0; after = ap (λ (ys : List ℕ). Some ys) (take_rest c.args.text.now (c.in-Some.i + 1)) ∙ p.1 }

pub returns-in-None : goal.returns-in-None
returns-in-None c =
    let found : c.position.result ≡ position (λ b. b == c.args.mark) c.args.text.now = position_from_yields_List (λ b. b == c.args.mark) _ _ c.position.result c.position.ensures.ran (YieldsList-from_slice c.args.text.now cc) (λ x b q k. search (rules, tests)) in
    let p = cut_none c.args.mark c.args.text.now (sym c.in-None.is ∙ found) in
    record { before = p.0; after = p.1 }
