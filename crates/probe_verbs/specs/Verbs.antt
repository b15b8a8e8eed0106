-- What a line of vecprobe asks for, by its first field.
use Rattle.std.specs.Prelude.{ℕ, List, [], ◌∷◌, Option}
use Rattle.lines.specs.Text.{word}
use Rattle.lines.specs.Fields.{first_named}
use Rattle.probe_floats.specs.declared.Work.TheVariants.{Narrow, Widen, Trunc}
use Rattle.vector_types.specs.declared.Mode.TheVariants.{Plain, Strict}
use Rattle.probe_vecs.specs.declared.FileKind.TheVariants.{Fvecs, Bvecs}
use Rattle.probe_verbs.specs.declared.Verb.{Verb}
use Rattle.probe_verbs.specs.declared.Verb.TheVariants.{Root, Float, Read, Write, Convert, Near, File, Append}

abbrev pub verb_words : List (List ℕ × Verb)
verb_words =
    (word "root", Root) ∷ (word "narrow", Float Narrow) ∷ (word "widen", Float Widen) ∷ (word "trunc", Float Trunc)
    ∷ (word "read", Read Plain) ∷ (word "strict", Read Strict) ∷ (word "write", Write) ∷ (word "conv", Convert) ∷ (word "near", Near)
    ∷ (word "fvecs", File Fvecs) ∷ (word "bvecs", File Bvecs) ∷ (word "append", Append) ∷ []

unfoldable pub verb_of : List ℕ → Option Verb
verb_of first = first_named verb_words first
