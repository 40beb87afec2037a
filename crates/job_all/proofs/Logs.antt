-- The lines of a job with their answers.
use Rattle.std.proofs.Common.{◌≡◌, ℕ, List, [], ◌∷◌, ◌++◌, map, sym, refl, ap, ◌∙◌, subst}
use Rattle.std.specs.List.{AllByRecursion, flat_map}
use Rattle.toll.specs.declared.seconds.Seconds.{Seconds}
use Rattle.toll.specs.SecondsKind.{seconds, seconds_kind}
use Rattle.floor.specs.Meaning.{Meaning}
use Rattle.floor.specs.Setting.{set_meaning}
use Rattle.job_all.specs.Jobs.{Stage, stepped, lines_text}
use Rattle.job_all.specs.JobLaws.{Exchange, changed_by, stage_after}

-- one line, answered where the job stands at s
abbrev pub exchanged : Stage → List ℕ → Exchange
exchanged s l = record { line = l; answer = (stepped s l).text }

-- each line with its answer
abbrev pub log_from : Stage → List (List ℕ) → List Exchange
log_from s [] = []
log_from s (l ∷ ls) = exchanged s l ∷ log_from (stepped s l).stage ls

pub log_lines : (s : Stage) (ls : List (List ℕ)) → map (λ e. e.line) (log_from s ls) ≡ ls
log_lines s [] = refl
log_lines s (l ∷ ls) = ap (λ (xs : List (List ℕ)). l ∷ xs) (log_lines (stepped s l).stage ls)

pub log_prints : (s : Stage) (ls : List (List ℕ)) → lines_text s ls ≡ flat_map (λ e. e.answer) (log_from s ls)
log_prints s [] = refl
log_prints s (l ∷ ls) = ap (λ (xs : List ℕ). (stepped s l).text ++ xs) (log_prints (stepped s l).stage ls)

-- what holds of each line with its answer, wherever the job stands
pub log_every : (P : Exchange → Type 0) → ((s : Stage) (l : List ℕ) → P (exchanged s l)) → (s : Stage) (ls : List (List ℕ)) → AllByRecursion P (log_from s ls)
log_every P h s [] = tt
log_every P h s (l ∷ ls) = (h s l, log_every P h (stepped s l).stage ls)

-- an exchange of a log: the lines before it, and where the job stood
pub record Met (s : Stage) (before : List Exchange) (e : Exchange) : Type 0 where
  pub earlier : List (List ℕ)
  pub before_is : before ≡ log_from s earlier
  pub answer_is : e.answer ≡ (stepped (stage_after s earlier) e.line).text

pub log_met : (s : Stage) (ls : List (List ℕ)) (before : List Exchange) (e : Exchange) (after : List Exchange) → log_from s ls ≡ before ++ (e ∷ after) → Met s before e
log_met s [] [] e after q = cc
log_met s [] (x ∷ xs) e after q = cc
log_met s (l ∷ ls) [] e after q =
    let h : exchanged s l ≡ e = cc in
    record { earlier = []; before_is = refl; answer_is = subst (λ (x : Exchange). x.answer ≡ (stepped s x.line).text) h refl }
log_met s (l ∷ ls) (x ∷ xs) e after q =
    let h : exchanged s l ≡ x = cc in
    let t : log_from (stepped s l).stage ls ≡ xs ++ (e ∷ after) = cc in
    let m = log_met (stepped s l).stage ls xs e after t in
    record {
      earlier = l ∷ m.earlier;
      before_is = ap (λ (y : Exchange). y ∷ xs) (sym h) ∙ ap (λ (ys : List Exchange). exchanged s l ∷ ys) m.before_is;
      answer_is = m.answer_is;
    }

pub changed_append : (m : Meaning Seconds) (cs ds : List (ℕ × ℕ)) → changed_by m (cs ++ ds) ≡ changed_by (changed_by m cs) ds
changed_append m [] ds = refl
changed_append m (c ∷ cs) ds = changed_append (set_meaning seconds_kind m c.0 (seconds c.1)) cs ds
