-- Powers of two in products and in shifts: by adding exponents.
use Rattle.std.proofs.Common.{◌≡◌, ℕ, zero, suc, ◌+◌, ◌*◌, ◌%◌, ◌^◌, ◌<◌, sym, refl, ap, ◌∙◌, mul_assoc, one-mul, pow-suc, arith, lit≤, pow-add, shl_exact}

pub four-pow : (j : ℕ) → 4 ^ j ≡ 2 ^ j * 2 ^ j
four-pow zero = refl
four-pow (suc j) = pow-suc 4 j ∙ ap (λ (x : ℕ). x * 4) (four-pow j) ∙ doubled (2 ^ j) ∙ ap (λ (x : ℕ). x * x) (sym (pow-suc 2 j))
  where
    doubled : (p : ℕ) → p * p * 4 ≡ p * 2 * (p * 2)
    doubled p = omega arith

pub one_shl : (j : ℕ) → j < 64 → (1 * 2 ^ j) % 2 ^ 64 ≡ 2 ^ j
one_shl j h = shl_exact {a = 1} 1 j 64 (lit≤ tt) (omega arith) ∙ one-mul (2 ^ j)

-- two products of powers of two with the same sum of exponents
pub pow-regroup : (m a b c d e : ℕ) → a + b + c ≡ d + e → m * 2 ^ a * 2 ^ b * 2 ^ c ≡ m * 2 ^ d * 2 ^ e
pow-regroup m a b c d e h =
    regroup m (2 ^ a) (2 ^ b) (2 ^ c)
    ∙ ap (λ (x : ℕ). m * x) (ap (λ (x : ℕ). x * 2 ^ c) (sym (pow-add 2 a b)) ∙ sym (pow-add 2 (a + b) c) ∙ ap (λ (x : ℕ). 2 ^ x) h ∙ pow-add 2 d e)
    ∙ sym (mul_assoc m (2 ^ d) (2 ^ e))
  where
    regroup : (m x y z : ℕ) → m * x * y * z ≡ m * (x * y * z)
    regroup m x y z = omega arith
