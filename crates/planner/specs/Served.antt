-- Every call as one: what is handed to it, what it hands back, and what it leaves.
-- World                        the floor and the planner
-- world_of, turn_of            the same of the code's values
-- Turn, Served                 what is handed to a call; what it hands back and leaves
-- said                         what an answer says: the number of a refusal, and its values
-- served A W turn              the call
use Rattle.std.specs.Prelude.{ℕ, List, length, Some, None, Ok, Err, Option, Result}
use Rattle.toll.specs.Tolls.{Tolls}
use Rattle.toll.specs.Refusals.{number_of}
use Rattle.toll.specs.declared.refusal.Refusal.{Refusal}
use Rattle.toll.specs.declared.refusal.Refusal.TheVariants.{NotNow}
use Rattle.floor.specs.Meaning.{Meaning}
use Rattle.planner.specs.Calls.{State, state_of, read_answer, Routed, routed, Changed, changed, put_answer, step_answer}
use Rattle.planner.specs.declared.answers.Answer.{Answer}
use Rattle.planner.specs.declared.answers.Answer.TheVariants.{Refused, Done, Place}
use Rattle.planner.specs.declared.answers.Answer.TheVariants as answer
use Rattle.planner.specs.declared.answers.Reading.{Reading}
use Rattle.planner.specs.declared.call.Call.{Call}
use Rattle.planner.specs.declared.call.Call.TheVariants.{Change, Put, Step, Halt, Read, Tally}
use Rattle.planner.specs.declared.call.Call.TheVariants as call
use Rattle.planner.specs.declared.carrier.Carrier.{Carrier}
use Rattle.planner.specs.declared.planner.Planner.{Planner}
use Rattle.planner.specs.declared.carrier.Carrier.TheVariants as carrier

-- the floor as it stands, and the planner
pub record World (T : Type 0) : Type 0 where
  pub floor : Meaning T
  pub planner : State T

-- what is handed to a call: the carrier's slip, the call with its numbers, and a buffer
pub record Turn (T : Type 0) : Type 0 where
  pub slip : Carrier
  pub call : Call T
  pub buffer : List ℕ

-- the world of the code's planner on a floor
abbrev pub world_of : {T : Type 0} → Meaning T → Planner T → World T
world_of m p = record { floor = m; planner = state_of p }

abbrev pub turn_of : {T : Type 0} → Carrier → Call T → List ℕ → Turn T
turn_of slip c buffer = record { slip = slip; call = c; buffer = buffer }

-- what a call hands back and leaves: its answer, a slip, the world and the buffer
pub record Served (T : Type 0) : Type 0 where
  pub answer : Answer T
  pub slip : Carrier
  pub world : World T
  pub buffer : List ℕ

-- a parked slip, and one under way
abbrev pub parked_at : ℕ → Carrier
parked_at p = carrier.Parked (record { place = p })

abbrev pub under_way_at : ℕ → Carrier
under_way_at p = carrier.UnderWay (record { place = p })

-- what an answer says
pub record Saying (T : Type 0) : Type 0 where
  -- the number of the refusal, if it is one
  pub refusal : Option ℕ
  -- of a route: its toll, its count, and its length in places
  pub toll : Option T
  pub count : Option ℕ
  pub length : Option ℕ
  -- of a step and a halt: where the carrier is
  pub place : Option ℕ
  -- of a reading: toll and next place, each possibly none
  pub reading : Option (Reading T)
  -- the tally
  pub tally : Option ℕ

-- what each answer says
abbrev pub said : {T : Type 0} → Answer T → Saying T
said (Refused why) = record { refusal = Some (number_of why); toll = None; count = None; length = None; place = None; reading = None; tally = None }
said Done = record { refusal = None; toll = None; count = None; length = None; place = None; reading = None; tally = None }
said (answer.Route r) = record { refusal = None; toll = Some r.toll; count = Some r.count; length = Some r.length; place = None; reading = None; tally = None }
said (Place p) = record { refusal = None; toll = None; count = None; length = None; place = Some p; reading = None; tally = None }
said (answer.Reading r) = record { refusal = None; toll = None; count = None; length = None; place = None; reading = Some r; tally = None }
said (answer.Tally n) = record { refusal = None; toll = None; count = None; length = None; place = None; reading = None; tally = Some n }

-- an answer that a result is made into
abbrev pub answer_by : {T X : Type 0} → (X → Answer T) → Result X Refusal → Answer T
answer_by f (Ok x) = f x
answer_by f (Err why) = Refused why

-- the slip after a result: a new one, or the one that was handed in
abbrev pub slip_by : {X : Type 0} → (X → Carrier) → Carrier → Result X Refusal → Carrier
slip_by f old (Ok x) = f x
slip_by f old (Err why) = old

-- a call that alters neither floor nor planner nor buffer
abbrev pub told : {T : Type 0} → World T → List ℕ → Carrier → Answer T → Served T
told W buffer slip a = record { answer = a; slip = slip; world = W; buffer = buffer }

abbrev pub served_route : {T : Type 0} → World T → ℕ → Routed T → Served T
served_route W s r = record {
  answer = answer_by answer.Route r.answer;
  slip = slip_by (λ a. under_way_at s) (parked_at s) r.answer;
  world = record { floor = W.floor; planner = r.state };
  buffer = r.buffer;
}

abbrev pub served_change : {T : Type 0} → ℕ → List ℕ → Changed T → Served T
served_change s buffer c = record {
  answer = answer_by (λ u. Done) c.answer;
  slip = parked_at s;
  world = record { floor = c.floor; planner = c.state };
  buffer = buffer;
}

-- a call with a parked slip at place s
abbrev pub served_parked : {T : Type 0} → Tolls T → World T → List ℕ → ℕ → Call T → Served T
served_parked A W buffer s (Change k b) = served_change s buffer (changed A W.floor W.planner k b)
served_parked A W buffer s (Put p) =
    told W buffer (slip_by parked_at (parked_at s) (put_answer (length W.planner.tree) p)) (answer_by (λ q. Done) (put_answer (length W.planner.tree) p))
served_parked A W buffer s call.Route = served_route W s (routed A W.floor W.planner s buffer)
served_parked A W buffer s Step = told W buffer (parked_at s) (Refused NotNow)
served_parked A W buffer s Halt = told W buffer (parked_at s) (Refused NotNow)
served_parked A W buffer s (Read p) = told W buffer (parked_at s) (answer_by answer.Reading (read_answer W.planner.tree p))
served_parked A W buffer s Tally = told W buffer (parked_at s) (answer.Tally W.planner.tally)

-- a call with a slip that is under way at place s
abbrev pub served_under_way : {T : Type 0} → World T → List ℕ → ℕ → Call T → Served T
served_under_way W buffer s (Change k b) = told W buffer (under_way_at s) (Refused NotNow)
served_under_way W buffer s (Put p) = told W buffer (under_way_at s) (Refused NotNow)
served_under_way W buffer s call.Route = told W buffer (under_way_at s) (Refused NotNow)
served_under_way W buffer s Step =
    told W buffer (slip_by under_way_at (under_way_at s) (step_answer W.floor W.planner s)) (answer_by Place (step_answer W.floor W.planner s))
served_under_way W buffer s Halt = told W buffer (parked_at s) (Place s)
served_under_way W buffer s (Read p) = told W buffer (under_way_at s) (answer_by answer.Reading (read_answer W.planner.tree p))
served_under_way W buffer s Tally = told W buffer (under_way_at s) (answer.Tally W.planner.tally)

-- a call with a slip
abbrev pub served_with : {T : Type 0} → Tolls T → World T → List ℕ → Carrier → Call T → Served T
served_with A W buffer (carrier.Parked p) c = served_parked A W buffer p.place c
served_with A W buffer (carrier.UnderWay p) c = served_under_way W buffer p.place c

abbrev pub served : {T : Type 0} → Tolls T → World T → Turn T → Served T
served A W turn = served_with A W turn.buffer turn.slip turn.call
