use Rattle.std.proofs.Common.{◌≡◌, rules}
use Rattle.jobtext.specs.Lines.{behind}
use Rattle.jobtext.proofs.LineFacts.{lines_step, behind_lt, line_laws}
use Rattle.jobtext.proofs.lines.first_line.Goals as goal

pub returns : goal.returns
returns c =
    let left_is : c.unwrap_or.result.now ≡ behind c.args.text.now = search rules in
    record {
      line = c.cut.ensures.before;
      left = left_is;
      step = lines_step _ _ _ c.cut.ensures.before left_is;
      shorter = behind_lt _ _ left_is;
      laws = line_laws;
    }
