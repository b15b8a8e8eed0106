-- `rounding::rooting::root_pattern` meets its contract: each number fits, and the law of the root (`root-pattern-is`) gives the pattern.
use Rattle.std.proofs.Common.{ℕ, ◌+◌, ◌-◌, ◌*◌, ◌/◌, ◌^◌, ◌<◌, ◌≤◌, sym, subst, le_trans, le-add_right, lt_of_le_of_lt, div-lt_iff_lt-mul, le-add_left, arith, pow_mono}
use lib.Ieee.{ones}
use Rattle.std.specs.Float.{Format}
use Rattle.rounding.specs.Inner.Pick.{digits_of}
use Rattle.rounding.specs.Inner.Parts.{IsWholeRoot, IsNormalized, IsRootPattern, Widths, format_of}
use Rattle.rounding.proofs.Patterns.{digits_lt, digits-pos}
use Rattle.rounding.proofs.RootLaw.{root_shift}
use Rattle.rounding.proofs.Widths.{format-bounds, pattern_lt, shift_le, shift-lt, shift-whole, whole-root-lt, root-pattern-is}
use Rattle.rounding.proofs.rooting.root_pattern.Goals as goal
use Rattle.rounding.proofs.rooting.root_pattern.Goals.{After-normalize-y, After-root_digits-r}

-- the exponent's field is below that of an infinity
field_lt : {f : Format} {prec hid low : ℕ} (b : ℕ) → Widths f prec hid low → b < ones f * hid → b / hid < 2047
field_lt b w l = let s = format-bounds w in let q = (div-lt_iff_lt-mul s.some).1 l in omega (arith, s.fields)

prec-le : (c : After-normalize-y) → c.args.prec ≤ 53
prec-le c = (format-bounds c.requires.widths).digits_le

normalized : (c : After-normalize-y) → let a = c.args in IsNormalized (digits_of a.hid a.b) (a.b / a.hid - 1 + a.low) a.hid c.normalize-y.result.m c.normalize-y.result.e
normalized c =
    let a = c.args in
    let x = c.decode-x in
    subst (λ (y : ℕ). IsNormalized y (a.b / a.hid - 1 + a.low) a.hid c.normalize-y.result.m c.normalize-y.result.e) x.ensures.0
    (subst (λ (y : ℕ). IsNormalized x.result.m (y + a.low) a.hid c.normalize-y.result.m c.normalize-y.result.e) x.ensures.1 c.normalize-y.ensures)

exponent-fits : (c : After-normalize-y) → mir.Val.Fits mir.Syntax.w64 (c.normalize-y.result.e + c.args.prec + 1)
exponent-fits c =
    let s = format-bounds c.requires.widths in
    omega (arith, field_lt c.args.b c.requires.widths c.requires.b_finite, (normalized c).exponent)

whole-root : (c : After-root_digits-r)
    → let y = c.normalize-y.result in
    let a = c.args in
    IsNormalized (digits_of a.hid a.b) (a.b / a.hid - 1 + a.low) a.hid y.m y.e
    → IsWholeRoot (y.m * 2 ^ root_shift c.args.prec y.e) c.root_digits-r.result.root c.root_digits-r.result.rest
whole-root c n =
    let y = c.normalize-y.result in
    rw (shift-whole c.requires.widths c.args.b y.m y.e c.requires.b_positive n) at c.root_digits-r.ensures

answered : (c : After-root_digits-r)
    → let y = c.normalize-y.result in
    let a = c.args in
    let e = y.e in
    IsNormalized (digits_of a.hid a.b) (a.b / a.hid - 1 + a.low) a.hid y.m e
    → IsRootPattern (format_of c.args.prec) c.args.b (((e - root_shift c.args.prec e) / 2 + 1) * c.args.hid + (c.root_digits-r.result.root + 1) / 2)
answered c n =
    let y = c.normalize-y.result in
    root-pattern-is c.requires.widths c.args.b y.m y.e c.requires.b_positive n c.root_digits-r.result.root c.root_digits-r.result.rest c.requires.b_finite (whole-root c n)

pub decode-x-requires : goal.decode-x-requires
decode-x-requires c = let s = format-bounds c.requires.widths in omega arith

pub overflow_add-x : goal.overflow_add-x
overflow_add-x c = let s = format-bounds c.requires.widths in omega (arith, field_lt c.args.b c.requires.widths c.requires.b_finite, c.decode-x.ensures.1)

pub normalize-y-requires : goal.normalize-y-requires
normalize-y-requires c =
    let s = format-bounds c.requires.widths in
    let x = c.decode-x in
    let some : 0 < x.result.m = subst (λ (y : ℕ). 0 < y) (sym x.ensures.0) (digits-pos c.args.hid c.args.b s.some c.requires.b_positive) in
    let less : x.result.m < 2 * c.args.hid = subst (λ (y : ℕ). y < 2 * c.args.hid) (sym x.ensures.0) (digits_lt c.args.hid c.args.b s.some) in
    record { m_positive = some; m_bound = less; hid_bound = omega arith; e_enough = le_trans s.deep (pow_mono (le-add_left c.args.low x.result.e)) }

pub overflow_add-shift : goal.overflow_add-shift
overflow_add-shift c = omega (arith, prec-le c)

pub overflow_add-shift-2 : goal.overflow_add-shift-2
overflow_add-shift-2 c = omega (arith, exponent-fits c)

pub overflow_add-shift-3 : goal.overflow_add-shift-3
overflow_add-shift-3 c = exponent-fits c

pub overflow_add-shift-4 : goal.overflow_add-shift-4
overflow_add-shift-4 c = omega (arith, prec-le c)

pub overflow_add-shift-5 : goal.overflow_add-shift-5
overflow_add-shift-5 c = omega (arith, prec-le c)

pub overflow_mul-prec : goal.overflow_mul-prec
overflow_mul-prec c = omega (arith, prec-le c)

pub overflow_sub-shift : goal.overflow_sub-shift
overflow_sub-shift c = omega (arith, prec-le c)

pub overflow_shl-y : goal.overflow_shl-y
overflow_shl-y c = omega (arith, prec-le (goal.at.overflow_shl-y c).After-normalize-y, (format-bounds c.requires.widths).digits_ge)

pub overflow_add-prec : goal.overflow_add-prec
overflow_add-prec c = omega (arith, prec-le (goal.at.overflow_add-prec c).After-normalize-y)

pub root_digits-r-requires : goal.root_digits-r-requires
root_digits-r-requires c =
    let y = c.normalize-y.result in
    record {
      a_bound = shift-lt c.requires.widths c.args.b y.m y.e c.requires.b_positive (normalized (goal.at.root_digits-r-requires c).After-normalize-y);
      n_bound = omega (arith, prec-le (goal.at.root_digits-r-requires c).After-normalize-y);
    }

pub overflow_sub-result : goal.overflow_sub-result
overflow_sub-result c = let y = c.normalize-y.result in shift_le c.requires.widths c.args.b y.m y.e c.requires.b_positive (normalized (goal.at.overflow_sub-result c).After-normalize-y)

pub overflow_mul-result : goal.overflow_mul-result
overflow_mul-result c = record { fits = lt_of_le_of_lt (le-add_right _ _) (pattern_lt (answered c (normalized (goal.at.overflow_mul-result c).After-normalize-y))) }

pub overflow_add-result-2 : goal.overflow_add-result-2
overflow_add-result-2 c =
    let y = c.normalize-y.result in
    let l = whole-root-lt c.requires.widths c.args.b y.m y.e c.requires.b_positive (normalized (goal.at.overflow_add-result-2 c).After-normalize-y) _ _ (whole-root (goal.at.overflow_add-result-2 c).After-root_digits-r (normalized (goal.at.overflow_add-result-2 c).After-normalize-y)) in
    omega (arith, (format-bounds c.requires.widths).lead)

pub overflow_add-result-3 : goal.overflow_add-result-3
overflow_add-result-3 c = omega (arith, pattern_lt (answered (goal.at.overflow_add-result-3 c).After-root_digits-r (normalized (goal.at.overflow_add-result-3 c).After-normalize-y)))

pub returns : goal.returns
returns c = answered (goal.at.returns c).After-root_digits-r (normalized (goal.at.returns c).After-normalize-y)
