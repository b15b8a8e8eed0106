-- What vecdist replies to a line. With | for a tab, a line is
--     D|A|B
-- where D is cos, l2, dot or jac, and A and B are blobs in lower-case hexadecimal. The reply is D| and the pattern of the distance
-- in sixteen digits, or R|, the number of a refusal, a, b or - for the blob that it is about, and after another tab the entry that is wrong,
-- if the refusal names one. The reply to any other line is X.
use Rattle.std.specs.Prelude.{ℕ, List, [], ◌∷◌, ◌++◌, Float, Option, Some, None, Result, Ok, Err}
use Rattle.std.specs.Option.{option_map_or}
use Rattle.std.specs.Float.{binary64}
use Rattle.std.specs.Float.Ieee.{to_bits}
use Rattle.io.specs.Digits.{last_digits}
use Rattle.lines.specs.Text.{word}
use Rattle.lines.specs.Printed.{head_of}
use Rattle.lines.specs.Parts.{fields_of}
use Rattle.lines.specs.Fields.{malformed, exactly, first_named, from_hex}
use Rattle.reply_texts.specs.Texts.{detail_text}
use Rattle.distance.specs.Answer.{distance_of}
use Rattle.vector_types.specs.Answers.{number_of, detail_of}
use Rattle.vector_types.specs.declared.Refusal.{Refusal}
use Rattle.distance.specs.declared.Distance.{Distance}
use Rattle.distance.specs.declared.Distance.TheVariants.{Cos, L2, Dot, Jaccard}
use Rattle.distance.specs.declared.Which.{Which}
use Rattle.distance.specs.declared.Which.TheVariants.{First, Second}
use Rattle.distance.specs.declared.Measured.{Measured}
use Rattle.distance.specs.declared.refused.Refused.{Refused}

-- the distance that D names
abbrev pub distance_words : List (List ℕ × Distance)
distance_words = (word "cos", Cos) ∷ (word "l2", L2) ∷ (word "dot", Dot) ∷ (word "jac", Jaccard) ∷ []

abbrev pub asked_of : List ℕ → Option Distance
asked_of field = first_named distance_words field

-- a distance after a mark, and a refusal with the name of the blob that it is about and what it carries
abbrev pub value_text : List ℕ → Float → List ℕ
value_text mark x = mark ++ last_digits 16 16 (to_bits binary64 x)

abbrev pub named_refusal_text : Refusal → List ℕ → List ℕ
named_refusal_text r name = ((word "R\t" ++ head_of (number_of r)) ++ name) ++ detail_text (detail_of r)

abbrev pub which_name : Option Which → List ℕ
which_name (Some First) = word "a"
which_name (Some Second) = word "b"
which_name None = word "-"

-- the counts of readings are not printed
unfoldable pub distance_text : Result Measured (Refused Which) → List ℕ
unfolding detail_text
distance_text (Ok m) = value_text (word "D\t") m.distance
distance_text (Err r) = named_refusal_text r.refusal (which_name r.blob)

-- the reply for the blobs that A and B are
abbrev pub measured_reply : Distance → List ℕ → List ℕ → List ℕ
measured_reply m first second = from_hex (λ a. from_hex (λ b. distance_text (distance_of m a b)) second) first

unfoldable pub distance_reply : List ℕ → List ℕ → List ℕ → List ℕ
unfolding distance_text from_hex
distance_reply field first second = option_map_or (λ m. measured_reply m first second) (asked_of field) malformed

unfoldable pub vecdist_reply : List ℕ → List ℕ
unfolding exactly distance_reply
vecdist_reply line = exactly 3 distance_reply (fields_of line)
