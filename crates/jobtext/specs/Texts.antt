-- The lines that are written in answer.
--     field_text f       a field after a blank: a number, or - for none
--     ok_line fs         "ok", the fields, and a newline
--     no_line n          "no", a number, and a newline
--     route_line t c w   the ok line of a toll, a count, and the places of a way
--     reply_text r       the text of an answer line
use Rattle.std.specs.Prelude.{ℕ, List, [], ◌∷◌, ◌++◌, map, Some, None, codes, Option}
use Rattle.std.specs.List.{flat_map}
use Rattle.jobtext.specs.LineTexts.{spaced}
use Rattle.jobtext.specs.declared.text.Reply.{Reply}
use Rattle.jobtext.specs.declared.text.Reply.TheVariants.{No, Fields, Route}

-- A field after a blank: a number in decimal, or - for none.
abbrev pub field_text : Option ℕ → List ℕ
field_text None = codes " -"
field_text (Some n) = spaced n

-- "ok", the fields, and a newline.
abbrev pub ok_line : List (Option ℕ) → List ℕ
ok_line fs = codes "ok" ++ (flat_map field_text fs ++ (10 ∷ []))

-- "no", a number, and a newline.
abbrev pub no_line : ℕ → List ℕ
no_line n = codes "no" ++ (spaced n ++ (10 ∷ []))

-- The ok line of a toll, a count, and the places of a way.
abbrev pub route_line : ℕ → ℕ → List ℕ → List ℕ
route_line toll count way = ok_line (Some toll ∷ Some count ∷ map Some way)

-- The text of an answer line.
abbrev pub reply_text : Reply → List ℕ
reply_text (No n) = no_line n
reply_text (Fields fs) = ok_line fs.now
reply_text (Route toll count way) = route_line toll count way.now
