-- The modes against each other, by their lists: a mode's own tests come after those of every mode, which are all that the plain one has.
use Rattle.std.proofs.Common.{◌≡◌, refl, sym, ◌∙◌, true≢false, List, ℕ, Option, None, Some, Result, Ok, Err}
use Rattle.vector_types.specs.Answers.{first_given, unless}
use Rattle.vector_types.specs.Layout.{named_kind}
use Rattle.vector_types.specs.Read.{read_of, refusals, own_refusals, shown}
use Rattle.vector_types.specs.declared.VectorType.{VectorType}
use Rattle.vector_types.specs.declared.KindError.{KindError}
use Rattle.vector_types.specs.declared.KindError.TheVariants.{Unsupported, Unknown}
use Rattle.vector_types.specs.declared.Mode.{Mode}
use Rattle.vector_types.specs.declared.Mode.TheVariants.{Plain}
use Rattle.vector_types.specs.declared.Refusal.{Refusal}
use Rattle.vector_types.specs.declared.View.{View}
use Rattle.vector_types.proofs.Given.{Passed, none_passed, unless-accepted, first-append, unless-twice}

-- what no test refuses is shown
passed-shown : (mode : Mode) (s : List ℕ) (n : Result VectorType KindError) (r : Refusal) → Passed (refusals mode n s) → shown n s ≡ Err r → ⊥
unfolding refusals shown
passed-shown mode s (Ok k) r p e = cc
passed-shown mode s (Err Unsupported) r p e = true≢false p.1.0
passed-shown mode s (Err Unknown) r p e = true≢false p.1.1.0

-- what is refused, a test refuses
pub refused-given : (mode : Mode) (s : List ℕ) (r : Refusal) → read_of mode s ≡ Err r → first_given (refusals mode (named_kind s) s) ≡ Some r
unfolding read_of
refused-given mode s r e = by_first (first_given (refusals mode (named_kind s) s)) refl
  where
    by_first : (g : Option Refusal) → first_given (refusals mode (named_kind s) s) ≡ g → first_given (refusals mode (named_kind s) s) ≡ Some r
    by_first None h = absurd (passed-shown mode s (named_kind s) r (none_passed (refusals mode (named_kind s) s) h) (rw h at e))
    by_first (Some q) h = let same = rw h at e in cc

module _ (mode : Mode) (s : List ℕ) where
  -- a mode's own refusals come after those of every mode
  own-after : read_of mode s ≡ unless (first_given (refusals Plain (named_kind s) s)) Err (unless (first_given (own_refusals mode (named_kind s) s)) Err (shown (named_kind s) s))
  unfolding read_of refusals
  own-after =
      let ts = refusals Plain (named_kind s) s in
      let us = own_refusals mode (named_kind s) s in
      rw (first-append ts us) (unless-twice (first_given ts) (first_given us) Err (shown (named_kind s) s))

  -- of a blob that the plain mode shows, a mode's own refusals alone decide
  pub read-by-own : (v : View) → read_of Plain s ≡ Ok v → read_of mode s ≡ unless (first_given (own_refusals mode (named_kind s) s)) Err (Ok v)
  unfolding read_of
  read-by-own v e =
      let (passes, shows) = unless-accepted (first_given (refusals Plain (named_kind s) s)) (shown (named_kind s) s) v e in
      own-after ∙ rw (passes, shows)

  pub shown-plainly : (v : View) → read_of mode s ≡ Ok v → read_of Plain s ≡ Ok v
  unfolding read_of
  shown-plainly v e =
      let us = first_given (own_refusals mode (named_kind s) s) in
      let (passes, then) = unless-accepted (first_given (refusals Plain (named_kind s) s)) (unless us Err (shown (named_kind s) s)) v (sym own-after ∙ e) in
      rw passes (unless-accepted us (shown (named_kind s) s) v then).1

  pub refused-in-every-mode : (r : Refusal) → read_of Plain s ≡ Err r → read_of mode s ≡ Err r
  refused-in-every-mode r e = own-after ∙ rw (refused-given Plain s r e)

pub one-view : (mode other : Mode) (s : List ℕ) (v w : View) → read_of mode s ≡ Ok v → read_of other s ≡ Ok w → v ≡ w
one-view mode other s v w e f = cc (shown-plainly mode s v e, shown-plainly other s w f)
