-- What readers of fvecs and bvecs rely on: one answer a place, vectors shown whatever follows, bytes as numbers, and files that read back.
use mathlib.Core.Path.{◌≡◌, refl, sym, ap, ◌∙◌}
use mathlib.Core.Logic.{inl, inr}
use mathlib.Core.Bool.{Bool, true, false, cond}
use mathlib.Core.List.{List, [], ◌∷◌, ◌++◌, append_assoc, append-nil}
use Rattle.std.proofs.Common.{Option, None, Some, Result, Ok, Err}
use Prim.Native.Nat.{ℕ, ◌+◌, ◌*◌, ◌<◌, ◌≤◌}
use native.Mathlib.Nat.{add-zero}
use native.Mathlib.Omega.{arith}
use lib.Dec.{ltb, leb, eqb}
use lib.IntN.{pos}
use lib.ListN.{length, get_or, take, drop, length-append, length-take}
use lib.Seq.{get_or-take, get_or-drop, length-take-le, take-add, take_all, take-append-le, drop-append-add, drop_at}
use lib.Ieee.{binary32, of_int}
use lib.Ieee.Exact.{HasValue}
use lib.Ieee.Fits.{of_int-fits}
use borrow.Author.Tests.{ltb-true, ltb-false, leb-true, leb-false}
use Rattle.float_laws.proofs.Whole.{of-whole}
use Rattle.little_endian.specs.Bytes.{u32_at, bytes_of}
use Rattle.little_endian.proofs.Numbers.{number_at-take, number_at-left, number_at-right, number_at-bytes_of, length-bytes_of}
use Rattle.little_endian.proofs.Put.{length-put}
use Rattle.vector_types.specs.Layout.{max_dims}
use Rattle.vector_types.specs.Answers.{number_of, accepted_as}
use Rattle.vector_types.specs.Read.{read_of}
use Rattle.vector_types.specs.Parts.{body_of}
use Rattle.vector_types.specs.declared.VectorType.TheVariants.{Float32Dense}
use Rattle.vector_types.specs.declared.Mode.TheVariants.{Plain}
use Rattle.vector_types.proofs.Ends.{even-untyped}
use Rattle.vector_types.proofs.Shapes.{reads-float32}
use Rattle.bodies.specs.Elements.{dense_element}
use Rattle.convert_parts.proofs.Through.{float-at}
use Rattle.vecs.specs.Vecs.{vector_of, vector_at, elements_at, byte_element, byte_floats}
use Rattle.vecs.specs.Cases.{Case, ended, over, cut, whole, CaseHolds, case_answer}
use Rattle.vecs.specs.Append.{vector_length, vector_bytes, append_outcome}
use Rattle.vecs.specs.Reading.{ShowsVector, ReadsAs, Filling, empty_filling, after_append, after_appends, appended_body, appended_bodies}
use Rattle.vecs.specs.declared.Found.{Found}
use Rattle.vector_types.specs.declared.Refusal.{Refusal}
use Rattle.vecs.proofs.AtPlace.{VectorFacts, vector-facts, at-end, file-cut, count-over, vector-whole, end-past, elements-are, length-elements}
use Rattle.vecs.proofs.Appended.{length-vector, EitherWay, append-either, filled_more}

-- ---- one case answers, once over the width
module _ (w : ℕ) (file : List ℕ) (place : ℕ) where
  pub case-answers : (c : Case) → CaseHolds c w file place → vector_at w file place ≡ case_answer c w file place
  case-answers ended h = at-end w file place h
  case-answers over (counted, many) = count-over w file place (omega arith) (omega arith) many
  case-answers cut (inside, short) = file-cut w file place inside short
  case-answers whole (few, fits) = vector-whole w file place (omega arith) (omega arith) few (omega arith)

  some-case : (c : Case) × CaseHolds c w file place
  some-case =
      by_tests (leb (length file) place) (ltb (length file) (place + 4)) (ltb max_dims (u32_at file place)) (ltb (length file) (place + 4 + w * u32_at file place))
      refl refl refl refl
    where
      by_tests : (b c d e : Bool) → leb (length file) place ≡ b → ltb (length file) (place + 4) ≡ c → ltb max_dims (u32_at file place) ≡ d
          → ltb (length file) (place + 4 + w * u32_at file place) ≡ e → (c : Case) × CaseHolds c w file place
      by_tests true c d e h i j k = (ended, leb-true (length file) place h)
      by_tests false true d e h i j k = (cut, (leb-false (length file) place h, inl (ltb-true (length file) (place + 4) i)))
      by_tests false false true e h i j k = (over, (ltb-false (length file) (place + 4) i, ltb-true max_dims (u32_at file place) j))
      by_tests false false false true h i j k =
          (cut, (leb-false (length file) place h, inr (ltb-false max_dims (u32_at file place) j, ltb-true (length file) (place + 4 + w * u32_at file place) k)))
      by_tests false false false false h i j k =
          (whole, (ltb-false max_dims (u32_at file place) j, ltb-false (length file) (place + 4 + w * u32_at file place) k))

  -- the case that an answer tells
  abbrev case_in : Result (Option Found) Refusal → Case
  case_in (Ok (Some v)) = whole
  case_in (Ok None) = ended
  case_in (Err r) = cond (eqb (number_of r) 9) over cut

  case-told : (c : Case) → case_in (case_answer c w file place) ≡ c
  case-told ended = refl
  case-told over = refl
  case-told cut = refl
  case-told whole = refl

  pub record OneCase : Type 0 where
    pub case : Case
    pub holds : CaseHolds case w file place
    pub answers : vector_at w file place ≡ case_answer case w file place
    pub only : (c : Case) → CaseHolds c w file place → c ≡ case

  pub one-case : OneCase
  one-case =
      let (case, holds) = some-case in
      let answers = case-answers case holds in
      record {
        case = case;
        holds = holds;
        answers = answers;
        only = λ c h. sym (case-told c) ∙ ap case_in (sym (case-answers c h) ∙ answers) ∙ case-told case;
      }

-- a part of the first bytes is a part of all
pub part-taken : (l : List ℕ) (s n : ℕ) → s + n ≤ length l → drop s (take (s + n) l) ≡ take n (drop s l)
part-taken l s n within = rw take-add (drop_at (take s l) (take n (drop s l)) s (length-take-le s l (omega arith)))

-- ---- a vector lies inside its file, and the next place is above its own
pub record Inside (w : ℕ) (file : List ℕ) (place : ℕ) (v : Found) : Type 0 where
  pub start : v.start ≡ place + 4
  pub next : v.next ≡ v.start + w * v.dims.0
  pub above : place < v.next
  pub within : v.next ≤ length file

module _ (w : ℕ) (file : List ℕ) (place : ℕ) (v : Found) (e : vector_at w file place ≡ Ok (Some v)) where
  facts : VectorFacts w file place v
  facts = vector-facts w file place v e

  pub vector-inside : Inside w file place v
  vector-inside = rw facts.is (record { start = refl; next = refl; above = omega arith; within = facts.within })

  -- ---- it is shown alike in every file that has the same bytes up to its next place, whatever follows
  module _ (other : List ℕ) (same : take v.next other ≡ take v.next file) where
    reaches : v.next ≤ length other
    reaches = omega (arith, ap length same, length-take v.next other, length-take-le v.next file vector-inside.within)

    same_count : u32_at other place ≡ u32_at file place
    same_count =
        let counted : place + 4 ≤ v.next = omega (arith, vector-inside.start, vector-inside.next) in
        sym (number_at-take 4 v.next other place counted) ∙ rw same (number_at-take 4 v.next file place counted)

    same-elements : take (w * v.dims.0) (drop v.start other) ≡ take (w * v.dims.0) (drop v.start file)
    same-elements =
        let n = w * v.dims.0 in
        let ends = vector-inside.next in
        sym (part-taken other v.start n (omega (arith, reaches, ends)))
        ∙ ap (drop v.start) (rw (← ends) same) ∙ part-taken file v.start n (omega (arith, ends, vector-inside.within))

    same_answer : vector_at w other place ≡ Ok (Some v)
    same_answer =
        let next : v.next ≡ place + 4 + w * u32_at file place = ap (λ (u : Found). u.next) facts.is in
        rw (facts.is, ← same_count)
        (vector-whole w other place (omega (arith, next, reaches)) (omega (arith, next, reaches)) (rw same_count facts.few) (rw same_count (omega (arith, next, reaches))))

    pub shown-before : ShowsVector w other place v (elements_at w file place)
    shown-before = record { answer = same_answer; part = elements-are w other place v same_answer ∙ same-elements ∙ sym (elements-are w file place v e) }

-- ---- fvecs: the elements that are shown are a Float32Dense blob of their own, of as many dims
pub elements-accepted : (file : List ℕ) (place : ℕ) (v : Found) → vector_at 4 file place ≡ Ok (Some v)
    → read_of Plain (elements_at 4 file place) ≡ accepted_as Float32Dense v.dims.0 (4 * v.dims.0)
elements-accepted file place v e =
    let s = elements_at 4 file place in
    let few : v.dims.0 ≤ max_dims = let t = vector-facts 4 file place v e in rw t.is t.few in
    let long = length-elements 4 file place v e in
    let (names, size) = even-untyped s (omega (arith, long)) in
    rw long at (reads-float32 s (length s) v.dims.0 size few (omega (arith, long, few)) names long)

-- ---- bvecs: element i is byte i, as an f32 that is exactly this number
pub byte-exact : (b : ℕ) → b < 256 → HasValue (of_int binary32 (pos b)) false b 1
byte-exact b h = of-whole binary32 b (omega arith)

pub bvecs-element : (file : List ℕ) (place : ℕ) (v : Found) → vector_at 1 file place ≡ Ok (Some v) → (i : ℕ) → i < v.dims.0
    → dense_element binary32 (byte_floats (elements_at 1 file place)) i ≡ of_int binary32 (pos (get_or file (v.start + i) 0))
bvecs-element file place v e i h =
    let s = elements_at 1 file place in
    let long = length-elements 1 file place v e in
    let byte : get_or s i 0 ≡ get_or file (v.start + i) 0 =
    rw (elements-are 1 file place v e, get_or-take (1 * v.dims.0) (drop v.start file) i 0 (omega arith), get_or-drop) in
    float-at binary32 (byte_element s) (length s) i (omega (arith, long)) (of_int-fits binary32 (pos (get_or s i 0)))
    ∙ ap (λ (b : ℕ). of_int binary32 (pos b)) byte

-- ---- a file with one vector more reads as before up to its old end, and there shows the new body
module _ (file : List ℕ) (d : ℕ) (body : List ℕ) (few : d ≤ max_dims) (long : length body ≡ 4 * d) where
  abbrev more : List ℕ
  more = file ++ vector_bytes d body

  length_more : length more ≡ length file + 4 + 4 * d
  length_more = rw (length-append, length-vector) (omega (arith, long))

  new-count : u32_at more (length file) ≡ d
  new-count =
      rw add-zero at (number_at-right 4 file (vector_bytes d body) 0)
      ∙ number_at-left 4 (bytes_of 4 d) body 0 (omega (arith, length-bytes_of 4 d)) ∙ number_at-bytes_of 4 d (omega arith)

  new-vector : ShowsVector 4 more (length file) (vector_of 4 (length file) d) body
  new-vector =
      let answer = rw new-count
      at (vector-whole 4 more (length file) (omega (arith, length_more)) (omega (arith, length_more)) (rw new-count few)
      (rw new-count (omega (arith, length_more)))) in
      let behind : drop (length file + 4) more ≡ body = drop-append-add file (vector_bytes d body) 4 ∙ drop_at (bytes_of 4 d) body 4 (length-bytes_of 4 d) in
      record { answer = answer; part = elements-are 4 more (length file) (vector_of 4 (length file) d) answer ∙ rw behind (take_all (4 * d) body (omega (arith, long))) }

  pub append-one : (place : ℕ) (bodies : List (List ℕ)) → place ≤ length file → ReadsAs 4 file place bodies → ReadsAs 4 more place (bodies ++ (body ∷ []))
  append-one place [] within e =
      let at : place ≡ length file = omega (arith, end-past 4 file place e) in
      rw at (vector_of 4 (length file) d, (new-vector, at-end 4 more (length file + 4 + 4 * d) (omega (arith, length_more))))
  append-one place (b ∷ bodies) within (v, (shows, reads)) =
      let inside = vector-inside 4 file place v shows.answer in
      let again = shown-before 4 file place v shows.answer more (take-append-le v.next file (vector_bytes d body) inside.within) in
      (v, (record { answer = again.answer; part = again.part ∙ shows.part }, append-one v.next bodies inside.within reads))

-- ---- blobs appended one a call are read back, and then the file ends
abbrev file_in : Filling → List ℕ
file_in f = take f.fill f.out

pub record ReadsBack (f : Filling) (bodies : List (List ℕ)) : Type 0 where
  pub within : f.fill ≤ length f.out
  pub reads : ReadsAs 4 (file_in f) 0 bodies

one_more : (f : Filling) (bodies : List (List ℕ)) (blob : List ℕ) → ReadsBack f bodies
    → ReadsBack (after_append f blob) (bodies ++ appended_body (append_outcome blob f.out f.fill).answer blob)
one_more f bodies blob back = by-outcome (append-either blob f.out f.fill)
  where
    by-outcome : EitherWay blob f.out f.fill → ReadsBack (after_append f blob) (bodies ++ appended_body (append_outcome blob f.out f.fill).answer blob)
    by-outcome (inl (r, e)) = rw (e, append-nil) back
    by-outcome (inr (d, grown)) =
        let vector = vector_bytes d (body_of blob) in
        let size = length-vector d (body_of blob) ∙ ap (λ (n : ℕ). 4 + n) grown.long in
        let file = filled_more f.out f.fill vector (f.fill + vector_length d) (omega (arith, size)) grown.room in
        rw grown.outcome
        (record {
          within = omega (arith, grown.room, length-put f.out f.fill vector (omega (arith, grown.room, size)));
          reads = rw file (append-one (file_in f) d (body_of blob) grown.few grown.long 0 bodies (omega arith) back.reads);
        })

reads_on : (f : Filling) (bodies blobs : List (List ℕ)) → ReadsBack f bodies → ReadsBack (after_appends f blobs) (bodies ++ appended_bodies f blobs)
reads_on f bodies [] back = rw append-nil back
reads_on f bodies (blob ∷ blobs) back = rw (← append_assoc) (reads_on (after_append f blob) _ blobs (one_more f bodies blob back))

pub reads-back-all : (out : List ℕ) (blobs : List (List ℕ)) → let f = after_appends (empty_filling out) blobs in
    ReadsAs 4 (take f.fill f.out) 0 (appended_bodies (empty_filling out) blobs)
reads-back-all out blobs = (reads_on (empty_filling out) [] blobs (record { within = omega arith; reads = at-end 4 [] 0 (omega arith) })).reads
