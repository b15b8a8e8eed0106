-- Laws of a text cut into lines: it may be cut in two anywhere, and of an unfinished line no more need be kept than its reply depends on.
use mathlib.Core.Path.{◌≡◌, refl, ap, ◌∙◌, sym}
use mathlib.Core.Bool.{Bool, true, false, cond, not}
use mathlib.Core.List.{List, [], ◌∷◌, ◌++◌, append_assoc, append-nil}
use Prim.Native.Nat.{ℕ, zero, suc, ◌+◌, ◌-◌, ◌<◌, ◌≤◌}
use native.Mathlib.Omega.{arith}
use native.Mathlib.Decide.{dec_lt}
use borrow.Author.Tests.{lt-ltb, eqb-true}
use lib.Dec.{eqb}
use lib.ListN.{length, take, drop, length-append, length-drop, take-append-drop}
use lib.Seq.{take_all, take-take, take-append-le, take-length, length-take-le}
use Rattle.std.specs.List.{position_or_len}
use Rattle.promises.proofs.Onto.{tail-lent}
use Rattle.lines.specs.Text.{newline}
use Rattle.lines.specs.Printed.{limited, numbered_replies}
use Rattle.line_stream.specs.Inner.Stream.{ended_lines, unfinished_line}

-- where the first newline of a text stands, or the text's length where it has none, as std has it
abbrev pub newline_at : List ℕ → ℕ
newline_at s = position_or_len (λ x. eqb x newline) s

abbrev newline_after : Bool → ℕ → ℕ
newline_after found k = cond (not found) (1 + k) 0

pub newline-le : (s : List ℕ) → newline_at s ≤ length s
newline-le [] = omega arith
newline-le (x ∷ s) = by (eqb x newline) (newline-le s)
  where
    by : (e : Bool) → newline_at s ≤ length s → newline_after e (newline_at s) ≤ suc (length s)
    by true h = omega arith
    by false h = omega arith

-- the first newline stands where it is found
pub newline_taken : (s : List ℕ) → newline_at s < length s → take (suc (newline_at s)) s ≡ take (newline_at s) s ++ (newline ∷ [])
newline_taken [] h = absurd (omega arith)
newline_taken (x ∷ s) h = by (eqb x newline) refl (newline_taken s) h
  where
    by : (e : Bool) → eqb x newline ≡ e → (newline_at s < length s → take (suc (newline_at s)) s ≡ take (newline_at s) s ++ (newline ∷ []))
        → newline_after e (newline_at s) < suc (length s) → take (suc (newline_after e (newline_at s))) (x ∷ s) ≡ take (newline_after e (newline_at s)) (x ∷ s) ++ (newline ∷ [])
    by true e ih h = rw (eqb-true x newline e)
    by false e ih h = let one : 1 + newline_at s ≡ suc (newline_at s) = omega arith in rw one (ap (λ (l : List ℕ). x ∷ l) (ih (omega arith)))

-- a text cut in two
pub ended-append : (l s t : List ℕ) → ended_lines l (s ++ t) ≡ ended_lines l s ++ ended_lines (unfinished_line l s) t
unfolding ended_lines unfinished_line
ended-append l [] t = refl
ended-append l (b ∷ s) t = go (eqb b newline) (ended-append [] s t) (ended-append (l ++ (b ∷ [])) s t)
  where
    go : (e : Bool) → ended_lines [] (s ++ t) ≡ ended_lines [] s ++ ended_lines (unfinished_line [] s) t
        → ended_lines (l ++ (b ∷ [])) (s ++ t) ≡ ended_lines (l ++ (b ∷ [])) s ++ ended_lines (unfinished_line (l ++ (b ∷ [])) s) t
        → cond e (l ∷ ended_lines [] (s ++ t)) (ended_lines (l ++ (b ∷ [])) (s ++ t))
        ≡ cond e (l ∷ ended_lines [] s) (ended_lines (l ++ (b ∷ [])) s) ++ ended_lines (cond e (unfinished_line [] s) (unfinished_line (l ++ (b ∷ [])) s)) t
    go true p q = ap (λ (ls : List (List ℕ)). l ∷ ls) p
    go false p q = q

pub unfinished-append : (l s t : List ℕ) → unfinished_line l (s ++ t) ≡ unfinished_line (unfinished_line l s) t
unfolding unfinished_line
unfinished-append l [] t = refl
unfinished-append l (b ∷ s) t = go (eqb b newline) (unfinished-append [] s t) (unfinished-append (l ++ (b ∷ [])) s t)
  where
    go : (e : Bool) → unfinished_line [] (s ++ t) ≡ unfinished_line (unfinished_line [] s) t → unfinished_line (l ++ (b ∷ [])) (s ++ t) ≡ unfinished_line (unfinished_line (l ++ (b ∷ [])) s) t
        → cond e (unfinished_line [] (s ++ t)) (unfinished_line (l ++ (b ∷ [])) (s ++ t)) ≡ unfinished_line (cond e (unfinished_line [] s) (unfinished_line (l ++ (b ∷ [])) s)) t
    go true p q = p
    go false p q = q

-- the bytes up to the first newline belong to one line
pub before-newline : (l s : List ℕ) → (ended_lines l (take (newline_at s) s) ≡ []) × (unfinished_line l (take (newline_at s) s) ≡ l ++ take (newline_at s) s)
unfolding ended_lines unfinished_line
before-newline l [] = (refl, sym (append-nil l))
before-newline l (x ∷ s) = go (eqb x newline) refl (before-newline (l ++ (x ∷ [])) s)
  where
    go : (e : Bool) → eqb x newline ≡ e
        → (ended_lines (l ++ (x ∷ [])) (take (newline_at s) s) ≡ []) × (unfinished_line (l ++ (x ∷ [])) (take (newline_at s) s) ≡ (l ++ (x ∷ [])) ++ take (newline_at s) s)
        → (ended_lines l (take (newline_after e (newline_at s)) (x ∷ s)) ≡ []) × (unfinished_line l (take (newline_after e (newline_at s)) (x ∷ s)) ≡ l ++ take (newline_after e (newline_at s)) (x ∷ s))
    go true e p = (refl, sym (append-nil l))
    go false e p = let one : 1 + newline_at s ≡ suc (newline_at s) = omega arith in rw (one, e) (p.0, p.1 ∙ append_assoc l (x ∷ []) _)

-- and with the newline they are that line
pub with_newline : (l s : List ℕ) → let p = take (newline_at s) s in (ended_lines l (p ++ (newline ∷ [])) ≡ (l ++ p) ∷ []) × (unfinished_line l (p ++ (newline ∷ [])) ≡ [])
unfolding ended_lines unfinished_line
with_newline l s =
    let p = take (newline_at s) s in
    let o = before-newline l s in
    (ended-append l p (newline ∷ []) ∙ rw (o.0, o.1), unfinished-append l p (newline ∷ []))

-- a text in which no newline is found
pub none-ended : (l s : List ℕ) → newline_at s ≡ length s → (ended_lines l s ≡ []) × (unfinished_line l s ≡ l ++ s)
none-ended l s e =
    let all : take (newline_at s) s ≡ s = rw e (take-length s) in
    rw all at (before-newline l s)

-- in a text that ends no line no newline is found, nor in the first bytes of a longer text
pub found-later : (l s : List ℕ) (k : ℕ) → k ≤ length s → ended_lines l (take k s) ≡ [] → k + newline_at (drop k s) ≡ newline_at s
unfolding ended_lines
found-later l s zero le e = omega arith
found-later l [] (suc k) le e = absurd (omega arith)
found-later l (x ∷ s) (suc k) le e = go (eqb x newline) e (λ p. found-later (l ++ (x ∷ [])) s k (omega arith) p)
  where
    go : (t : Bool) → cond t (l ∷ ended_lines [] (take k s)) (ended_lines (l ++ (x ∷ [])) (take k s)) ≡ [] → (ended_lines (l ++ (x ∷ [])) (take k s) ≡ [] → k + newline_at (drop k s) ≡ newline_at s)
        → suc k + newline_at (drop k s) ≡ newline_after t (newline_at s)
    go true e p = let z : ◌≡◌ {A = ℕ} 0 1 = cc in absurd (omega arith)
    go false e p = omega (arith, p e)

pub unfinished-whole : (l s : List ℕ) → ended_lines l s ≡ [] → unfinished_line l s ≡ l ++ s
unfolding ended_lines unfinished_line
unfinished-whole l [] e = sym (append-nil l)
unfinished-whole l (x ∷ s) e = go (eqb x newline) e (λ p. unfinished-whole (l ++ (x ∷ [])) s p ∙ append_assoc l (x ∷ []) s)
  where
    go : (t : Bool) → cond t (l ∷ ended_lines [] s) (ended_lines (l ++ (x ∷ [])) s) ≡ [] → (ended_lines (l ++ (x ∷ [])) s ≡ [] → unfinished_line (l ++ (x ∷ [])) s ≡ l ++ (x ∷ s))
        → cond t (unfinished_line [] s) (unfinished_line (l ++ (x ∷ [])) s) ≡ l ++ (x ∷ s)
    go true e p = let z : ◌≡◌ {A = ℕ} 0 1 = cc in absurd (omega arith)
    go false e p = p e

nil-front : (a b : List (List ℕ)) → a ++ b ≡ [] → a ≡ []
nil-front [] b e = refl
nil-front (x ∷ a) b e = let z : ◌≡◌ {A = ℕ} 0 1 = cc in absurd (omega arith)

pub none-ended-take : (l s : List ℕ) (k : ℕ) → ended_lines l s ≡ [] → ended_lines l (take k s) ≡ []
none-ended-take l s k e = nil-front (ended_lines l (take k s)) _ (sym (ended-append l (take k s) (drop k s)) ∙ rw take-append-drop e)

-- what is left unfinished ends no line
pub none-ended-unfinished : (l s : List ℕ) → ended_lines [] l ≡ [] → ended_lines [] (unfinished_line l s) ≡ []
unfolding ended_lines unfinished_line
none-ended-unfinished l [] e = e
none-ended-unfinished l (b ∷ s) e = go (eqb b newline) refl (none-ended-unfinished [] s refl) (none-ended-unfinished (l ++ (b ∷ [])) s)
  where
    go : (t : Bool) → eqb b newline ≡ t → ended_lines [] (unfinished_line [] s) ≡ [] → (ended_lines [] (l ++ (b ∷ [])) ≡ [] → ended_lines [] (unfinished_line (l ++ (b ∷ [])) s) ≡ [])
        → ended_lines [] (cond t (unfinished_line [] s) (unfinished_line (l ++ (b ∷ [])) s)) ≡ []
    go true eq p q = p
    go false eq p q = q (ended-append [] l (b ∷ []) ∙ rw (e, eq))

-- an unfinished line and the bytes after it, as one text
pub ended-line : (l s : List ℕ) → ended_lines [] l ≡ [] → ended_lines [] (l ++ s) ≡ ended_lines l s
ended-line l s e = ended-append [] l s ∙ rw (e, unfinished-whole [] l e)

pub unfinished-line : (l s : List ℕ) → ended_lines [] l ≡ [] → unfinished_line [] (l ++ s) ≡ unfinished_line l s
unfinished-line l s e = unfinished-append [] l s ∙ rw (unfinished-whole [] l e)

-- of a line that grows, the first k bytes depend on its first k only
cut-more : (k : ℕ) (l x : List ℕ) → take k (take k l ++ x) ≡ take k (l ++ x)
cut-more k l x = elim (dec_lt k (length l)) [ yes over ↦ full over | no under ↦ all (omega (arith, under)) ]
  where
    full : k < length l → take k (take k l ++ x) ≡ take k (l ++ x)
    full over =
        let size = length-take-le k l (omega arith) in
        take-append-le k (take k l) x (omega (arith, size)) ∙ take-take k k l (omega arith) ∙ sym (take-append-le k l x (omega arith))

    all : length l ≤ k → take k (take k l ++ x) ≡ take k (l ++ x)
    all under = rw (take_all k l under)

pub cut-unfinished : (k : ℕ) (l s : List ℕ) → take k (unfinished_line (take k l) s) ≡ take k (unfinished_line l s)
unfolding unfinished_line
cut-unfinished k l [] = take-take k k l (omega arith)
cut-unfinished k l (b ∷ s) = go (eqb b newline) (cut-unfinished k (take k l ++ (b ∷ [])) s) (cut-unfinished k (l ++ (b ∷ [])) s)
  where
    go : (e : Bool) → take k (unfinished_line (take k (take k l ++ (b ∷ []))) s) ≡ take k (unfinished_line (take k l ++ (b ∷ [])) s)
        → take k (unfinished_line (take k (l ++ (b ∷ []))) s) ≡ take k (unfinished_line (l ++ (b ∷ [])) s)
        → take k (cond e (unfinished_line [] s) (unfinished_line (take k l ++ (b ∷ [])) s)) ≡ take k (cond e (unfinished_line [] s) (unfinished_line (l ++ (b ∷ [])) s))
    go true p q = refl
    go false p q = sym p ∙ ap (λ (m : List ℕ). take k (unfinished_line m s)) (cut-more k l (b ∷ [])) ∙ q

-- how many lines end does not depend on what came of the first
pub count_same : (l m s : List ℕ) → length (ended_lines l s) ≡ length (ended_lines m s)
unfolding ended_lines
count_same l m [] = refl
count_same l m (b ∷ s) = go (eqb b newline) (count_same (l ++ (b ∷ [])) (m ++ (b ∷ [])) s)
  where
    go : (e : Bool) → length (ended_lines (l ++ (b ∷ [])) s) ≡ length (ended_lines (m ++ (b ∷ [])) s)
        → length (cond e (l ∷ ended_lines [] s) (ended_lines (l ++ (b ∷ [])) s)) ≡ length (cond e (m ∷ ended_lines [] s) (ended_lines (m ++ (b ∷ [])) s))
    go true p = refl
    go false p = p

-- no more lines end than there are bytes
pub count-le : (l s : List ℕ) → length (ended_lines l s) ≤ length s
unfolding ended_lines
count-le l [] = omega arith
count-le l (b ∷ s) = go (eqb b newline) (count-le [] s) (count-le (l ++ (b ∷ [])) s)
  where
    go : (e : Bool) → length (ended_lines [] s) ≤ length s → length (ended_lines (l ++ (b ∷ [])) s) ≤ length s
        → length (cond e (l ∷ ended_lines [] s) (ended_lines (l ++ (b ∷ [])) s)) ≤ suc (length s)
    go true p q = omega arith
    go false p q = omega arith

-- a reply that depends on the first k bytes of a line
abbrev pub DependsOnFirst : (List ℕ → List ℕ) → ℕ → Type 0
DependsOnFirst reply k = (l : List ℕ) → reply (take k l) ≡ reply l

-- whether a line is over the limit shows in one byte more than the limit
pub limited-depends-on-first : (limit : ℕ) (reply : List ℕ → List ℕ) → DependsOnFirst (limited limit reply) (limit + 1)
limited-depends-on-first limit reply l = elim (dec_lt limit (length l)) [ yes over ↦ long over | no under ↦ all (omega (arith, under)) ]
  where
    long : limit < length l → limited limit reply (take (limit + 1) l) ≡ limited limit reply l
    long over =
        let size : length (take (limit + 1) l) ≡ limit + 1 = length-take-le (limit + 1) l (omega arith) in
        rw (size, lt-ltb limit (limit + 1) (omega arith), lt-ltb limit (length l) over)

    all : length l ≤ limit → limited limit reply (take (limit + 1) l) ≡ limited limit reply l
    all under = ap (limited limit reply) (take_all (limit + 1) l (omega arith))

module _ (reply : List ℕ → List ℕ) where
  pub replies-append : (n : ℕ) (a b : List (List ℕ)) → numbered_replies reply n (a ++ b) ≡ numbered_replies reply n a ++ numbered_replies reply (n + length a) b
  unfolding numbered_replies
  replies-append n [] b = let k : n + 0 ≡ n = omega arith in rw k
  replies-append n (l ∷ a) b =
      let k : n + 1 + length a ≡ n + suc (length a) = omega arith in
      rw (replies-append (n + 1) a b, append_assoc, k)

  pub cut-replies : (k : ℕ) → DependsOnFirst reply k → (n : ℕ) (l s : List ℕ) → numbered_replies reply n (ended_lines (take k l) s) ≡ numbered_replies reply n (ended_lines l s)
  unfolding ended_lines numbered_replies
  cut-replies k depends n l [] = refl
  cut-replies k depends n l (b ∷ s) = go (eqb b newline) (cut-replies k depends n (take k l ++ (b ∷ [])) s) (cut-replies k depends n (l ++ (b ∷ [])) s)
    where
      go : (e : Bool) → numbered_replies reply n (ended_lines (take k (take k l ++ (b ∷ []))) s) ≡ numbered_replies reply n (ended_lines (take k l ++ (b ∷ [])) s)
          → numbered_replies reply n (ended_lines (take k (l ++ (b ∷ []))) s) ≡ numbered_replies reply n (ended_lines (l ++ (b ∷ [])) s)
          → numbered_replies reply n (cond e (take k l ∷ ended_lines [] s) (ended_lines (take k l ++ (b ∷ [])) s)) ≡ numbered_replies reply n (cond e (l ∷ ended_lines [] s) (ended_lines (l ++ (b ∷ [])) s))
      go true p q = rw (depends l)
      go false p q = sym p ∙ ap (λ (m : List ℕ). numbered_replies reply n (ended_lines m s)) (cut-more k l (b ∷ [])) ∙ q

-- the bytes of lines with their newlines
pub line_bytes : List (List ℕ) → ℕ
line_bytes [] = 0
line_bytes (l ∷ ls) = length l + 1 + line_bytes ls

pub text-length : (l s : List ℕ) → length l + length s ≡ line_bytes (ended_lines l s) + length (unfinished_line l s)
unfolding ended_lines unfinished_line line_bytes
text-length l [] = omega arith
text-length l (b ∷ s) = go (eqb b newline) (text-length [] s) (text-length (l ++ (b ∷ [])) s)
  where
    go : (e : Bool) → length {A = ℕ} [] + length s ≡ line_bytes (ended_lines [] s) + length (unfinished_line [] s)
        → length (l ++ (b ∷ [])) + length s ≡ line_bytes (ended_lines (l ++ (b ∷ [])) s) + length (unfinished_line (l ++ (b ∷ [])) s)
        → length l + suc (length s) ≡ line_bytes (cond e (l ∷ ended_lines [] s) (ended_lines (l ++ (b ∷ [])) s)) + length (cond e (unfinished_line [] s) (unfinished_line (l ++ (b ∷ [])) s))
    go true p q = omega arith
    go false p q = omega (arith, length-append l (b ∷ []))

-- what follows a place of a text, as it is lent
pub rest-lent : (at : ℕ) (text : List ℕ) → length (take (length text - at) (drop at text)) ≡ length text - at
rest-lent at text = rw (tail-lent at text) (length-drop at text)
