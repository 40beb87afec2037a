use Rattle.std.proofs.Common.{◌≡◌, None, sym, ◌∙◌, rules}
use Rattle.jobtext.specs.Parsing.{parse_line}
use Rattle.jobtext.proofs.SpellFacts.{parse_only, parse_every}
use Rattle.jobtext.proofs.parse.parse.Goals as goal

pub returns-in-len1 : goal.returns-in-len1
returns-in-len1 c =
    let v : c.by_letter.result ≡ parse_line c.args.line.now = search rules in
    record { value = v; only = λ l e. parse_only _ l (sym v ∙ e); every = λ l s. v ∙ parse_every _ l s }

pub returns-in_default : goal.returns-in_default
returns-in_default c =
    let v : None ≡ parse_line c.args.line.now = search rules in
    record { value = v; only = λ l e. parse_only _ l (sym v ∙ e); every = λ l s. v ∙ parse_every _ l s }
