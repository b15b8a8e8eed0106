-- The replies to lines about a probe and two candidates. With | for a tab the lines are
--     near|D|P|A|B
-- where D is cos, l2, dot or jac, and P, A and B are blobs in lower-case hexadecimal. The replies are
--     N|1|F|n    N|2|F|n    R|number|p    R|number|p|E
-- where F is the pattern of the nearer one's distance in sixteen digits and n its count of readings, p, a, b or - is the blob that a refusal is
-- about, and E is the entry that is wrong.
use Rattle.std.specs.Prelude.{ℕ, List, ◌++◌, Option, Some, None, Result, Ok, Err}
use Rattle.std.specs.Option.{option_map_or}
use Rattle.lines.specs.Text.{word}
use Rattle.lines.specs.Fields.{malformed, from_hex}
use Rattle.distance.specs.declared.Distance.{Distance}
use Rattle.nearer.specs.Nearer.{nearer_of}
use Rattle.nearer.specs.declared.Candidate.{Candidate}
use Rattle.nearer.specs.declared.Candidate.TheVariants.{First, Second}
use Rattle.nearer.specs.declared.Near.{Near}
use Rattle.nearer.specs.declared.Among.{Among}
use Rattle.nearer.specs.declared.Among.TheVariants.{Probe, First as TheFirst, Second as TheSecond}
use Rattle.distance.specs.declared.refused.Refused.{Refused}
use Rattle.reply_texts.specs.Texts.{field_text}
use Rattle.vecdist_lines.specs.Line.{asked_of, value_text, named_refusal_text}

abbrev pub candidate_mark : Candidate → List ℕ
candidate_mark First = word "N\t1\t"
candidate_mark Second = word "N\t2\t"

abbrev pub among_name : Option Among → List ℕ
among_name (Some Probe) = word "p"
among_name (Some TheFirst) = word "a"
among_name (Some TheSecond) = word "b"
among_name None = word "-"

-- a candidate after a mark: its distance and its readings
abbrev pub near_text : List ℕ → Near → List ℕ
near_text mark n = value_text mark n.distance ++ field_text n.readings.0

unfoldable pub nearer_text : Result Near (Refused Among) → List ℕ
nearer_text (Ok n) = near_text (candidate_mark n.candidate) n
nearer_text (Err r) = named_refusal_text r.refusal (among_name r.blob)

-- the reply for the blobs that P, A and B are
abbrev pub nearest_reply : Distance → List ℕ → List ℕ → List ℕ → List ℕ
nearest_reply m probe first second = from_hex (λ p. from_hex (λ a. from_hex (λ b. nearer_text (nearer_of m p a b)) second) first) probe

unfoldable pub near_reply : List ℕ → List ℕ → List ℕ → List ℕ → List ℕ
unfolding nearer_text from_hex
near_reply field probe first second = option_map_or (λ m. nearest_reply m probe first second) (asked_of field) malformed
