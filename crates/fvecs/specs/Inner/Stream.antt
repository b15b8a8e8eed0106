-- An fvecs file that comes in pieces: what the program is to write for each.
use Rattle.std.specs.Prelude.{ℕ, ◌+◌, ◌≡◌, Bool, true, false, cond, List, [], ◌∷◌, ◌++◌, length, Option, Result}
use Rattle.lines.specs.Printed.{numbered_replies}
use Rattle.vecs.specs.Vecs.{vector_at}
use Rattle.vecs.specs.declared.Found.{Found}
use Rattle.vector_types.specs.declared.Refusal.{Refusal}
use Rattle.vecs_lines.specs.Inner.Cut.{vectors_of, size_of, rest_of, whole_reply, answer_at, ends_listing, told_line}
use Rattle.fvecs.specs.declared.ListedText.{ListedText}

-- how much of the file is listed: up to a place, before which so many vectors stand; what came from there on; whether a refusal ended it; and what is written
pub record FileProgress : Type 0 where
  pub place : ℕ
  pub before : ℕ
  pub rest : List ℕ
  pub ended : Bool
  pub output : List ℕ

abbrev pub none_listed : FileProgress
none_listed = record { place = 0; before = 0; rest = []; ended = false; output = [] }

-- what stands after the vectors of a text, which starts at a place of the file
abbrev pub after_vectors : ℕ → List ℕ → Result (Option Found) Refusal
after_vectors place text = answer_at (place + size_of (vectors_of text)) (vector_at 4 (rest_of text) 0)

-- a text is listed, which starts where the listing stands; `last` says that nothing follows it
abbrev pub after_text : Bool → FileProgress → List ℕ → FileProgress
after_text last p text = record {
  place = p.place + size_of (vectors_of text);
  before = p.before + length (vectors_of text);
  rest = rest_of text;
  ended = ends_listing last (after_vectors p.place text);
  output = p.output ++ (numbered_replies whole_reply (p.before + 1) (vectors_of text) ++ told_line last (p.before + length (vectors_of text) + 1) (after_vectors p.place text));
}

-- a piece, and the end of the file; after a refusal nothing is read
abbrev pub after_file_piece : FileProgress → List ℕ → FileProgress
after_file_piece p s = cond p.ended p (after_text false p (p.rest ++ s))

unfoldable pub after_file_pieces : FileProgress → List (List ℕ) → FileProgress
after_file_pieces p [] = p
after_file_pieces p (s ∷ pieces) = after_file_pieces (after_file_piece p s) pieces

abbrev pub at_file_end : FileProgress → FileProgress
at_file_end p = cond p.ended p (after_text true p p.rest)

-- what is written for a file
abbrev pub written_for_file : List (List ℕ) → List ℕ
written_for_file pieces = (at_file_end (after_file_pieces none_listed pieces)).output

-- all vectors of a text are listed
pub record ListsAll (text : List ℕ) (before : ℕ) (r : ListedText) : Type 0 where
  pub place : r.at ≡ size_of (vectors_of text)
  pub numbered : r.before ≡ before + length (vectors_of text)

-- and nothing was refused after them
pub record ListsOn (last : Bool) (text : List ℕ) (place before : ℕ) (r : ListedText) : Type 0 where
  pub all : ListsAll text before r
  pub on : ends_listing last (after_vectors place text) ≡ false
