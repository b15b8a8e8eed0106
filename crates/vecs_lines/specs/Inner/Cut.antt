-- A text cut into the vectors that stand whole at its start, one after another, and what is left of it.
use Rattle.std.specs.Prelude.{ℕ, zero, suc, ◌+◌, ◌≡◌, Bool, cond, ltb, List, [], ◌∷◌, ◌++◌, length, take, drop, Option, None, Some, is_some, Result, Ok, Err}
use Rattle.std.specs.Option.{option_map_or}
use Rattle.std.specs.List.{concat}
use Rattle.little_endian.specs.Bytes.{u32_at}
use Rattle.vector_types.specs.declared.Refusal.{Refusal}
use Rattle.vector_types.specs.declared.Refusal.TheVariants.{FileEndsInside}
use Rattle.vecs.specs.Vecs.{vector_at}
use Rattle.vecs.specs.declared.Found.{Found}
use Rattle.lines.specs.Printed.{numbered_reply, numbered_replies}
use Rattle.line_stream.specs.Inner.Serving.{answered_lines}
use Rattle.reply_texts.specs.Texts.{refusal_text}
use Rattle.vecs_lines.specs.Line.{vector_reply}
use Rattle.vecs_lines.specs.Inner.Rooms.{vector_line_room}
use Rattle.vecs_lines.specs.declared.ListedVectors.{ListedVectors}

-- up to where the vector goes that an answer shows
abbrev pub end_of : Result (Option Found) Refusal → Option ℕ
end_of (Ok (Some v)) = Some v.next
end_of (Ok None) = None
end_of (Err r) = None

-- how many bytes the vector has that starts a text, if a whole one does
abbrev pub first_size : List ℕ → Option ℕ
first_size text = end_of (vector_at 4 text 0)

-- the vectors, each with its count; a text has no more of them than bytes
unfoldable pub vectors_in : ℕ → List ℕ → List (List ℕ)
vectors_in zero text = []
vectors_in (suc fuel) text = option_map_or (λ size. take size text ∷ vectors_in fuel (drop size text)) (first_size text) []

abbrev pub vectors_of : List ℕ → List (List ℕ)
vectors_of text = vectors_in (length text) text

-- how many bytes vectors have, and what a text has after its own
abbrev pub size_of : List (List ℕ) → ℕ
size_of vectors = length (concat vectors)

abbrev pub rest_of : List ℕ → List ℕ
rest_of text = drop (size_of (vectors_of text)) text

-- what is printed for a vector after its number: its count is the dims, and the elements follow
abbrev pub whole_reply : List ℕ → List ℕ
whole_reply vector = vector_reply (u32_at vector 0) (drop 4 vector)

-- of the vectors of a text those for which there is room
abbrev pub listed_vectors : List ℕ → ℕ → ℕ → List (List ℕ)
listed_vectors text before room = answered_lines whole_reply vector_line_room (before + 1) room (vectors_of text)

-- they are listed, up to `at`: their lines are put after what stands in out, which has so much room
pub record Lists (room : ℕ) (text : List ℕ) (before : ℕ) (out out' : List ℕ) (r : ListedVectors) : Type 0 where
  pub place : r.at ≡ size_of (listed_vectors text before room)
  pub numbered : r.before ≡ before + length (listed_vectors text before room)
  pub lines : out' ≡ out ++ numbered_replies whole_reply (before + 1) (listed_vectors text before room)
  pub more : r.more ≡ ltb (length (listed_vectors text before room)) (length (vectors_of text))

-- what stands at the start of a text, in a file that has the text from a place on
abbrev pub refusal_at : ℕ → Refusal → Refusal
refusal_at place (FileEndsInside p) = FileEndsInside place
refusal_at place r = r

abbrev pub answer_at : ℕ → Result (Option Found) Refusal → Result (Option Found) Refusal
answer_at place (Ok (Some v)) = Ok (Some (record { dims = v.dims; start = place + v.start; next = place + v.next }))
answer_at place (Ok None) = Ok None
answer_at place (Err r) = Err (refusal_at place r)

-- the refusal that is told: that the file ends inside a vector, only when nothing more comes
abbrev pub told : Bool → Refusal → Option Refusal
told last (FileEndsInside place) = cond last (Some (FileEndsInside place)) None
told last r = Some r

abbrev pub told_refusal : Bool → Result (Option Found) Refusal → Option Refusal
told_refusal last (Ok v) = None
told_refusal last (Err r) = told last r

abbrev pub ends_listing : Bool → Result (Option Found) Refusal → Bool
ends_listing last a = is_some (told_refusal last a)

-- its line, with its number
abbrev pub told_line : Bool → ℕ → Result (Option Found) Refusal → List ℕ
told_line last n a = option_map_or (λ r. numbered_reply n (refusal_text r)) (told_refusal last a) []
