-- There is one nearest value and only one, for every format, number and way of comparing: its two neighbours decide it, and `pick` finds it.
use Rattle.std.proofs.Common.{◌≡◌, ℕ, zero, suc, ◌+◌, ◌-◌, ◌*◌, ◌%◌, ◌^◌, ◌<◌, ◌≤◌, Bool, true, false, cond, not, ◌&&◌, T, eqb, leb, ◌⊎◌, sym, refl, ap, ◌∙◌, subst, inl, inr, zero-le, le_trans, le_of_eq, le_refl, lt_of_lt_of_le, le_of_suc-le-suc, lt_of_le_of_lt, add-zero, le_of_lt, add_assoc, add-le-add, lt_irrefl, add_comm, le_antisymm, lt_of_mul-lt-mul_right, eq-or-lt_of_le, mul-lt-mul_of_pos_right, lt_of_not-le, add-one, arith, le→leb, eqb→eq, leb→le}
use Prim.Native.Nat.{compare, Ordering}
use native.Mathlib.Nat.{two-pow-succ, eq_of_mul-eq-mul_right}
use lib.Dec.{not_T}
use lib.Ieee.{Float, inf, Format, binary32, binary64, nearest, hid, ones}
use lib.Ieee.Bits.{is_false}
use lib.Ieee.Fits.{and_l, and_r}
use borrow.Author.Tests.{eqb-false}
use Rattle.rounding.specs.Nearest.{Even, LessOrTie, Nearest}
use Rattle.rounding.specs.Inner.Pick.{count, higher_is_nearer, nearer_than_previous, last, pick}
use Rattle.rounding.proofs.Compare.{Compared, compared}
use Rattle.rounding.proofs.Patterns.{signed, signed-infinity, signed-size, Pattern, pattern-of, signed-parity, count-lt, count-le, count-suc, lt-of-count-lt}

-- ---- less, or a tie where something holds
le-less-or-tie : (E : Type 0) (a b c : ℕ) → a ≤ b → LessOrTie b c E → LessOrTie a c E
le-less-or-tie E a b c h (inl l) = inl (lt_of_le_of_lt h l)
le-less-or-tie E a b c h (inr t) = go (eq-or-lt_of_le h)
  where
    go : (a ≡ b) ⊎ (a < b) → LessOrTie a c E
    go (inl p) = inr (p ∙ t.0, t.1)
    go (inr l) = inl (lt_of_lt_of_le l (le_of_eq t.0))

less-or-tie-le : (E : Type 0) (a b c : ℕ) → b ≤ c → LessOrTie a b E → LessOrTie a c E
less-or-tie-le E a b c h (inl l) = inl (lt_of_lt_of_le l h)
less-or-tie-le E a b c h (inr t) = go (eq-or-lt_of_le h)
  where
    go : (b ≡ c) ⊎ (b < c) → LessOrTie a c E
    go (inl p) = inr (t.0 ∙ p, t.1)
    go (inr l) = inl (lt_of_le_of_lt (le_of_eq t.0) l)

less-or-tie-map : {E F : Type 0} (a b : ℕ) → (E → F) → LessOrTie a b E → LessOrTie a b F
less-or-tie-map a b g (inl l) = inl l
less-or-tie-map a b g (inr t) = inr (t.0, g t.1)

less-or-tie-of : (E : Type 0) (a b : ℕ) → a ≤ b → (a ≡ b → E) → LessOrTie a b E
less-or-tie-of E a b h e = go (eq-or-lt_of_le h)
  where
    go : (a ≡ b) ⊎ (a < b) → LessOrTie a b E
    go (inl p) = inr (p, e p)
    go (inr l) = inl l

less-or-tie-weaken : (E : Type 0) (a b : ℕ) → LessOrTie a b E → a ≤ b
less-or-tie-weaken E a b (inl l) = le_of_lt l
less-or-tie-weaken E a b (inr t) = le_of_eq t.0

-- both ways round: they tie, and both conditions hold
less-or-tie-antisym : (E F : Type 0) (a b : ℕ) → LessOrTie a b E → LessOrTie b a F → (a ≡ b) × E × F
less-or-tie-antisym E F a b (inl l) k = absurd (lt_irrefl a (lt_of_lt_of_le l (less-or-tie-weaken F b a k)))
less-or-tie-antisym E F a b (inr t) (inl k) = absurd (lt_irrefl b (lt_of_lt_of_le k (le_of_eq t.0)))
less-or-tie-antisym E F a b (inr t) (inr u) = (t.0, t.1, u.1)

odd-suc : (b r : ℕ) → b % 2 ≡ suc r → suc b % 2 ≡ 0
odd-suc b r e = omega arith

add-lt : (a b c : ℕ) → b < c → a + b < a + c
add-lt a b c h = omega arith

-- ---- the number lies on b's side of the points midway to the patterns before and after b
pub record Between (f : Format) (v : ℕ) (mid : ℕ → ℕ) (b : ℕ) : Type 0 where
  pub within : b ≤ ones f * hid f
  pub previous : (c : ℕ) → suc c ≡ b → LessOrTie (mid (count f b + count f c)) v (b % 2 ≡ 0)
  pub next : b < ones f * hid f → LessOrTie v (mid (count f b + count f (suc b))) (b % 2 ≡ 0)

abbrev pub Increasing : (ℕ → ℕ) → Type 0
Increasing mid = (a b : ℕ) → a < b → mid a < mid b

increasing-le : (mid : ℕ → ℕ) → Increasing mid → (a b : ℕ) → a ≤ b → mid a ≤ mid b
increasing-le mid r a b h = go (eq-or-lt_of_le h)
  where
    go : (a ≡ b) ⊎ (a < b) → mid a ≤ mid b
    go (inl e) = le_of_eq (ap mid e)
    go (inr l) = le_of_lt (r a b l)

module _ (f : Format) (s : Bool) (v : ℕ) (mid : ℕ → ℕ) (rising : Increasing mid) where
  -- the point midway between two patterns' values
  abbrev midway : ℕ → ℕ → ℕ
  midway a b = mid (count f a + count f b)

  midway-le : (a b c : ℕ) → b ≤ c → midway a b ≤ midway a c
  midway-le a b c h = increasing-le mid rising (count f a + count f b) (count f a + count f c) (add-le-add (le_refl (count f a)) (count-le f b c h))

  midway-lt : (a b c : ℕ) → b < c → midway a b < midway a c
  midway-lt a b c h = rising (count f a + count f b) (count f a + count f c) (add-lt (count f a) (count f b) (count f c) (count-lt f b c h))

  -- ---- two neighbours are enough
  nearest-at : (b : ℕ) → Between f v mid b → Nearest f s v mid (signed f s b)
  nearest-at b t =
      record {
        Y = count f b;
        has_size = signed-size f s b t.within;
        lower = λ z Z w l. less-or-tie-map (mid (count f b + Z)) v even-value (below (pattern-of f s z Z w) l b refl);
        higher = λ z Z w l. less-or-tie-map v (mid (count f b + Z)) even-value (above (pattern-of f s z Z w) l);
      }
    where
      even-value : b % 2 ≡ 0 → Even f (signed f s b)
      even-value e = signed-parity f s b t.within ∙ e

      none : (c : ℕ) → c < 0 → ⊥
      none c h = omega arith

      below : {z : Float} {Z : ℕ} → Pattern f s z Z → Z < count f b → (c : ℕ) → b ≡ c → LessOrTie (mid (count f b + Z)) v (b % 2 ≡ 0)
      below {z} {Z} p l c e = go c e (lt-of-count-lt f p.b b (lt_of_le_of_lt (le_of_eq p.counts) l))
        where
          go : (c : ℕ) → b ≡ c → p.b < b → LessOrTie (mid (count f b + Z)) v (b % 2 ≡ 0)
          go zero e l = absurd (none p.b (rw e at l))
          go (suc c) e l =
              subst (λ (x : ℕ). LessOrTie (mid (count f b + x)) v (b % 2 ≡ 0)) p.counts
              (le-less-or-tie (b % 2 ≡ 0) (midway b p.b) (midway b c) v (midway-le b p.b c (le_of_suc-le-suc (subst (λ (x : ℕ). p.b < x) e l))) (t.previous c (sym e)))

      above : {z : Float} {Z : ℕ} → Pattern f s z Z → count f b < Z → LessOrTie v (mid (count f b + Z)) (b % 2 ≡ 0)
      above {z} {Z} p l =
          let b_lt : b < p.b = lt-of-count-lt f b p.b (lt_of_lt_of_le l (le_of_eq (sym p.counts))) in
          subst (λ (x : ℕ). LessOrTie v (mid (count f b + x)) (b % 2 ≡ 0)) p.counts
          (less-or-tie-le (b % 2 ≡ 0) v (midway b (suc b)) (midway b p.b) (midway-le b (suc b) p.b b_lt) (t.next (lt_of_lt_of_le b_lt p.within)))

  -- ---- only one
  -- of two, neither's pattern is below the other's: the number would lie midway, both would be even, and the value after the lower one would be nearer
  not-below : {y z : Float} → (n : Nearest f s v mid y) (m : Nearest f s v mid z) (p : Pattern f s y n.Y) (q : Pattern f s z m.Y) → p.b < q.b → ⊥
  not-below {y} {z} n m p q l =
      let Y-lt : n.Y < m.Y = lt_of_le_of_lt (le_of_eq (sym p.counts)) (lt_of_lt_of_le (count-lt f p.b q.b l) (le_of_eq q.counts)) in
      let from-z = subst (λ (x : ℕ). LessOrTie (mid x) v (Even f z)) (add_comm m.Y n.Y) (m.lower y n.Y n.has_size Y-lt) in
      let both = less-or-tie-antisym (Even f z) (Even f y) (mid (n.Y + m.Y)) v from-z (n.higher z m.Y m.has_size Y-lt) in
      let gap : suc p.b < q.b = apart p.b q.b l (parity y p both.2) (parity z q both.1) in
      let C = count f (suc p.b) in
      let C-lt : C < m.Y = lt_of_lt_of_le (count-lt f (suc p.b) q.b gap) (le_of_eq q.counts) in
      let less : mid (n.Y + C) < v = lt_of_lt_of_le (rising (n.Y + C) (n.Y + m.Y) (add-lt n.Y C m.Y C-lt)) (le_of_eq both.0) in
      let more = n.higher (signed f s (suc p.b)) C (signed-size f s (suc p.b) (le_trans (le_of_lt gap) q.within)) (lt_of_le_of_lt (le_of_eq (sym p.counts)) (count-suc f p.b)) in
      lt_irrefl v (lt_of_le_of_lt (less-or-tie-weaken (Even f y) v (mid (n.Y + C)) more) less)
    where
      parity : (x : Float) {X : ℕ} → (r : Pattern f s x X) → Even f x → r.b % 2 ≡ 0
      parity x r e = sym (signed-parity f s r.b r.within) ∙ subst (λ (a : Float). Even f a) (sym r.is) e

      apart : (a b : ℕ) → a < b → a % 2 ≡ 0 → b % 2 ≡ 0 → suc a < b
      apart a b l e g = omega arith

  pub nearest-unique : {y z : Float} → Nearest f s v mid y → Nearest f s v mid z → y ≡ z
  nearest-unique {y} {z} n m =
      let p = pattern-of f s y n.Y n.has_size in
      let q = pattern-of f s z m.Y m.has_size in
      sym p.is ∙ ap (signed f s) (le_antisymm (at_most (not-below m n q p)) (at_most (not-below n m p q))) ∙ q.is
    where
      at_most : {a b : ℕ} → (a < b → ⊥) → b ≤ a
      at_most h = le_of_suc-le-suc (lt_of_not-le h)

  -- ---- `pick` finds it
  abbrev is_nearer : ℕ → Bool
  is_nearer = nearer_than_previous f v mid

  -- a is 0 or nearer than the pattern before it, and the pattern after it is not nearer than a
  record Last (a : ℕ) : Type 0 where
    holds : (a ≡ 0) ⊎ (T (is_nearer a))
    fails_next : T (not (is_nearer (suc a)))

  last-is : (d a : ℕ) → (a ≡ 0) ⊎ (T (is_nearer a)) → T (not (is_nearer (a + 2 ^ d))) → Last (last is_nearer d a)
  unfolding last
  last-is zero a t n = record { holds = t; fails_next = subst (λ (x : ℕ). T (not (is_nearer x))) (add-one a) n }
  last-is (suc d) a t n = half (is_nearer (a + 2 ^ d)) refl (last-is d)
    where
      halves : a + 2 ^ d + 2 ^ d ≡ a + 2 ^ suc d
      halves = add_assoc a (2 ^ d) (2 ^ d) ∙ ap (λ (x : ℕ). a + x) (sym (two-pow-succ d))

      half : (b : Bool) → is_nearer (a + 2 ^ d) ≡ b → ((a : ℕ) → (a ≡ 0) ⊎ (T (is_nearer a)) → T (not (is_nearer (a + 2 ^ d))) → Last (last is_nearer d a)) → Last (last is_nearer d (cond b (a + 2 ^ d) a))
      half true e go = go (a + 2 ^ d) (inr (subst T (sym e) tt)) (subst (λ (x : ℕ). T (not (is_nearer x))) (sym halves) n)
      half false e go = go a t (subst (λ (b : Bool). T (not b)) (sym e) tt)

  -- no pattern has more than 64 digits
  fails-beyond : T (not (is_nearer (0 + 2 ^ 64)))
  fails-beyond = not_T (is_nearer (0 + 2 ^ 64)) (λ t. small f (leb→le (0 + 2 ^ 64) (ones f * hid f) (and_l (leb (0 + 2 ^ 64) (ones f * hid f)) _ t)))
    where
      small : (f : Format) → 2 ^ 64 ≤ ones f * hid f → ⊥
      small binary32 h = omega arith
      small binary64 h = omega arith

  higher-nearer-midway : (o : Ordering) (b m : ℕ) → Compared o m v → T (higher_is_nearer o b) → LessOrTie m v (b % 2 ≡ 0)
  higher-nearer-midway Ordering.lt b m c t = inl c
  higher-nearer-midway Ordering.eq b m c t = inr (c, eqb→eq (b % 2) 0 t)
  higher-nearer-midway Ordering.gt b m c t = absurd t

  lower-nearer-midway : (o : Ordering) (b m : ℕ) → Compared o m v → T (not (higher_is_nearer o (suc b))) → LessOrTie v m (b % 2 ≡ 0)
  lower-nearer-midway Ordering.lt b m c t = absurd t
  lower-nearer-midway Ordering.eq b m c t = inr (sym c, other (b % 2) refl)
    where
      other : (r : ℕ) → b % 2 ≡ r → b % 2 ≡ 0
      other zero e = e
      other (suc r) e = absurd (eqb-false (suc b % 2) 0 (is_false (eqb (suc b % 2) 0) t) (odd-suc b r e))
  lower-nearer-midway Ordering.gt b m c t = inl c

  between : (a : ℕ) → Last a → Between f v mid a
  between a t = record { within = go t.holds; previous = low t.holds; next = high }
    where
      go : (a ≡ 0) ⊎ (T (is_nearer a)) → a ≤ ones f * hid f
      go (inl z) = rw z zero-le
      go (inr u) = leb→le a (ones f * hid f) (and_l (leb a (ones f * hid f)) _ u)

      none : (c : ℕ) → suc c ≡ 0 → ⊥
      none c h = omega arith

      pred : (a c : ℕ) → suc c ≡ a → a - 1 ≡ c
      pred a c h = omega arith

      low : (a ≡ 0) ⊎ (T (is_nearer a)) → (c : ℕ) → suc c ≡ a → LessOrTie (midway a c) v (a % 2 ≡ 0)
      low (inl z) c e = absurd (none c (e ∙ z))
      low (inr u) c e =
          subst (λ (x : ℕ). LessOrTie (midway a x) v (a % 2 ≡ 0)) (pred a c e)
          (higher-nearer-midway (compare (midway a (a - 1)) v) a (midway a (a - 1)) (compared (midway a (a - 1)) v) (and_r (leb a (ones f * hid f)) _ u))

      and-not : (a b : Bool) → T a → T (not (a && b)) → T (not b)
      and-not true b t n = n
      and-not false b t n = absurd t

      high : a < ones f * hid f → LessOrTie v (midway a (suc a)) (a % 2 ≡ 0)
      high l =
          subst (λ (x : ℕ). LessOrTie v (mid x) (a % 2 ≡ 0)) (ap (λ (x : ℕ). count f (suc a) + count f x) (pred (suc a) a refl) ∙ add_comm (count f (suc a)) (count f a))
          (lower-nearer-midway (compare (midway (suc a) (suc a - 1)) v) a (midway (suc a) (suc a - 1)) (compared (midway (suc a) (suc a - 1)) v)
          (and-not (leb (suc a) (ones f * hid f)) _ (le→leb (suc a) (ones f * hid f) l) t.fails_next))

  pub pick-nearest : Nearest f s v mid (pick f s v mid)
  unfolding pick
  pick-nearest = let a = last is_nearer 64 0 in nearest-at a (between a (last-is 64 0 (inl refl) fails-beyond))

  -- ---- if the number lies from the value of the pattern b up to that of b + 1, the nearer of the two, at the midpoint the even one, is nearest
  lower-nearest : (b : ℕ) → b < ones f * hid f → midway b b ≤ v → v ≤ midway b (suc b) → (v ≡ midway b (suc b) → b % 2 ≡ 0) → Nearest f s v mid (signed f s b)
  lower-nearest b l from h e =
      nearest-at b (record {
        within = le_of_lt l;
        previous = λ c g. inl (lt_of_lt_of_le (midway-lt b c b (le_of_eq g)) from);
        next = λ g. less-or-tie-of (b % 2 ≡ 0) v (midway b (suc b)) h e;
      })

  higher-nearest : (b : ℕ) → b < ones f * hid f → v < midway (suc b) (suc b) → midway b (suc b) ≤ v → (midway b (suc b) ≡ v → suc b % 2 ≡ 0) → Nearest f s v mid (signed f s (suc b))
  higher-nearest b l under h e =
      nearest-at (suc b) (record {
        within = l;
        previous = λ c g. subst (λ (x : ℕ). LessOrTie (mid x) v (suc b % 2 ≡ 0)) (midway-comm c g) (less-or-tie-of (suc b % 2 ≡ 0) (midway b (suc b)) v h e);
        next = λ g. inl (lt_of_lt_of_le under (le_of_lt (midway-lt (suc b) (suc b) (suc (suc b)) (le_refl (suc (suc b))))));
      })
    where
      same : (c : ℕ) → suc c ≡ suc b → b ≡ c
      same c h = omega arith

      midway-comm : (c : ℕ) → suc c ≡ suc b → count f b + count f (suc b) ≡ count f (suc b) + count f c
      midway-comm c g = add_comm (count f b) (count f (suc b)) ∙ ap (λ (x : ℕ). count f (suc b) + count f x) (same c g)

  pub floor-nearest : (b : ℕ) → b < ones f * hid f → midway b b ≤ v → v < midway (suc b) (suc b) → Nearest f s v mid (signed f s (nearest b (compare v (midway b (suc b)))))
  floor-nearest b l from under = go (compare v (midway b (suc b))) (compared v (midway b (suc b)))
    where
      differ : (a b : ℕ) → a < b → a ≡ b → ⊥
      differ a b l e = omega arith

      odd-next : (r : ℕ) → b % 2 ≡ suc r → suc b ≡ b + b % 2
      odd-next r e = omega arith

      tie : (r : ℕ) → b % 2 ≡ r → v ≡ midway b (suc b) → Nearest f s v mid (signed f s (b + b % 2))
      tie zero e c = rw (e, add-zero b) (lower-nearest b l from (le_of_eq c) (λ p. e))
      tie (suc r) e c = subst (λ (x : ℕ). Nearest f s v mid (signed f s x)) (odd-next r e) (higher-nearest b l under (le_of_eq (sym c)) (λ p. odd-suc b r e))

      go : (o : Ordering) → Compared o v (midway b (suc b)) → Nearest f s v mid (signed f s (nearest b o))
      go Ordering.lt c = lower-nearest b l from (le_of_lt c) (λ p. absurd (differ v (midway b (suc b)) c p))
      go Ordering.eq c = tie (b % 2) refl c
      go Ordering.gt c = higher-nearest b l under (le_of_lt c) (λ p. absurd (differ (midway b (suc b)) v c p))

  -- from an infinity's pattern on
  pub top-nearest : midway (ones f * hid f) (ones f * hid f) ≤ v → Nearest f s v mid (inf s)
  top-nearest h =
      let t = ones f * hid f in
      subst (λ (y : Float). Nearest f s v mid y) (signed-infinity f s)
      (nearest-at t (record {
        within = le_refl t;
        previous = λ c g. inl (lt_of_lt_of_le (midway-lt t c t (le_of_eq g)) h);
        next = λ g. absurd (lt_irrefl t g);
      }))

-- ---- the number and what it is compared with may be scaled alike
less-or-tie-scale : (E : Type 0) (a b a' b' d K : ℕ) → 0 < d → 0 < K → a * d ≡ a' * K → b * d ≡ b' * K → LessOrTie a b E → LessOrTie a' b' E
less-or-tie-scale E a b a' b' d K pd pK p q (inl l) = inl (lt_of_mul-lt-mul_right K (lt_of_le_of_lt (le_of_eq (sym p)) (lt_of_lt_of_le (mul-lt-mul_of_pos_right l pd) (le_of_eq q))))
less-or-tie-scale E a b a' b' d K pd pK p q (inr t) = inr (eq_of_mul-eq-mul_right K pK a' b' (sym p ∙ ap (λ (x : ℕ). x * d) t.0 ∙ q), t.1)

pub nearest-scale : (v v' d K : ℕ) (mid mid' : ℕ → ℕ) → 0 < d → 0 < K → v * d ≡ v' * K → ((M : ℕ) → mid M * d ≡ mid' M * K)
    → (f : Format) (s : Bool) (y : Float) → Nearest f s v mid y → Nearest f s v' mid' y
nearest-scale v v' d K mid mid' pd pK number points f s y n =
    record {
      Y = n.Y;
      has_size = n.has_size;
      lower = λ z Z w l. less-or-tie-scale (Even f y) (mid (n.Y + Z)) v (mid' (n.Y + Z)) v' d K pd pK (points (n.Y + Z)) number (n.lower z Z w l);
      higher = λ z Z w l. less-or-tie-scale (Even f y) v (mid (n.Y + Z)) v' (mid' (n.Y + Z)) d K pd pK number (points (n.Y + Z)) (n.higher z Z w l);
    }
