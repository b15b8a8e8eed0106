-- Laws of the reply to a line by its fields.
use Rattle.std.proofs.Common.{◌≡◌, refl, List, [], ◌∷◌, ℕ, Option, Some, None}
use Rattle.lines.specs.Parts.{fields_of}
use Rattle.lines.specs.Fields.{malformed, exactly}
use Rattle.std.specs.Option.{option_map_or}
use Rattle.probe_verbs.specs.Verbs.{verb_of}
use Rattle.probe_verbs.specs.declared.Verb.{Verb}
use Rattle.probe_verbs.specs.declared.Verb.TheVariants.{Root, Float, Read, Write, Convert, Near, File, Append}
use Rattle.probe_lines.specs.Line.{verb_reply, fields_reply, vecprobe_reply}

-- a line of one field
pub reply-one : (line : List ℕ) → fields_of line ≡ line ∷ [] → vecprobe_reply line ≡ malformed
unfolding vecprobe_reply fields_reply verb_reply exactly
reply-one line e = rw e (by (verb_of line))
  where
    none : (verb : Verb) → verb_reply verb [] ≡ malformed
    none Root = refl
    none (Float work) = refl
    none (Read mode) = refl
    none Write = refl
    none Convert = refl
    none Near = refl
    none (File kind) = refl
    none Append = refl

    by : (o : Option Verb) → option_map_or (λ verb. verb_reply verb []) o malformed ≡ malformed
    by None = refl
    by (Some verb) = none verb

-- a line of more, of which the first is a verb, or none
pub reply-asked : (line word rest : List ℕ) {o : Option Verb} → fields_of line ≡ word ∷ fields_of rest → o ≡ verb_of word
    → vecprobe_reply line ≡ option_map_or (λ verb. verb_reply verb (fields_of rest)) o malformed
unfolding vecprobe_reply fields_reply
reply-asked line word rest e is = rw (e, is) refl
