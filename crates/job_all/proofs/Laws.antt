-- The laws of a job.
use Rattle.std.proofs.Common.{◌≡◌, ℕ, ◌≤◌, ltb, List, length, ◌∙◌}
use Rattle.std.proofs.lemmas.Bool.{cond-false, le-ltb}
use Rattle.toll.specs.declared.refusal.Refusal.TheVariants.{BadLine}
use Rattle.jobtext.specs.Lines.{lines}
use Rattle.jobtext.specs.Texts.{no_line}
use Rattle.job_all.specs.Jobs.{empty, refusal_line, lines_text}
use Rattle.job_all.specs.JobLaws.{OneLine, Formed, JobLaws}
use Rattle.job_all.proofs.AnswerTexts.{step_one}
use Rattle.job_all.proofs.Formless.{step_formless, step_formed}
use Rattle.job_all.proofs.Logs.{log_from, log_lines, log_prints, log_every}
use Rattle.job_all.proofs.Routes.{log_routes}

pub job_laws : (text : List ℕ) → length text ≤ 65536 → JobLaws text
job_laws text h = record {
  log = log_from (empty 1024) (lines text);
  each = log_lines (empty 1024) (lines text);
  prints = cond-false (ltb 65536 (length text)) (refusal_line BadLine) (lines_text (empty 1024) (lines text)) (le-ltb 65536 (length text) h) ∙ log_prints (empty 1024) (lines text);
  single = log_every (λ e. OneLine e.answer) step_one (empty 1024) (lines text);
  formless = log_every (λ e. ¬ (Formed e.line) → e.answer ≡ no_line 13) step_formless (empty 1024) (lines text);
  formed = log_every (λ e. Formed e.line → ¬ (e.answer ≡ no_line 13)) step_formed (empty 1024) (lines text);
  routes = λ before after e. log_routes (lines text) before after e;
}
