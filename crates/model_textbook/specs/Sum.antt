-- REFERENCE 8.1. Document 01, 'Where the result is exact', sums up coefficients and products of them (Knuth,
-- Seminumerical Algorithms, 4.7): the sum of f over a range of numbers, by any operation that is associative,
-- commutative and has a zero; and the two that are used, of ℕ and of ℤ.
use Rattle.std.specs.Prelude.{◌≡◌, ℕ, zero, suc, ◌+◌, ℤ, pos, ◌+ℤ◌}
use Rattle.std.proofs.Common.{zero-add, add_assoc, add_comm}
use Rattle.std.proofs.Math.IntN.{+ℤ_idl, +ℤ_assoc, +ℤ_comm}

-- a commutative monoid
pub record Adding (A : Type 0) : Type 0 where
  pub nil : A
  pub plus : A → A → A
  pub nil_plus : (a : A) → plus nil a ≡ a
  pub assoc : (a b c : A) → plus (plus a b) c ≡ plus a (plus b c)
  pub comm : (a b : A) → plus a b ≡ plus b a

-- f a, f (a + 1), ..: n of them
unfoldable pub sum : {A : Type 0} → Adding A → (ℕ → A) → ℕ → ℕ → A
sum M f zero a = M.nil
sum M f (suc n) a = M.plus (f a) (sum M f n (suc a))

abbrev pub add_n : Adding ℕ
add_n = record { nil = 0; plus = ◌+◌; nil_plus = zero-add; assoc = add_assoc; comm = add_comm }

abbrev pub add_z : Adding ℤ
add_z = record { nil = pos 0; plus = ◌+ℤ◌; nil_plus = +ℤ_idl; assoc = +ℤ_assoc; comm = +ℤ_comm }

abbrev pub sum_n : (ℕ → ℕ) → ℕ → ℕ → ℕ
sum_n = sum add_n

abbrev pub sum_z : (ℕ → ℤ) → ℕ → ℕ → ℤ
sum_z = sum add_z
