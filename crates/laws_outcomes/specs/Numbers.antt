-- What an answer says in the documents' numbers is what its gate says: a refusal's number, place, variable and cause
-- with 0 for header and values, or number 0 with the value (document 01, 'Refusal numbers'; document 02, W5).
use Rattle.std.specs.Prelude.{ℕ, true, false, ◌≡◌, refl, Float}
use Rattle.model.specs.declared.Refusal.{Refusal}
use Rattle.model.specs.declared.Linear.{Linear}
use Rattle.model.specs.Refusals.{no_refusal, is_none, zero_f, answer_by, read_by, linear_by}
use Rattle.model.specs.Linear.{no_linear}
use Rattle.model.specs.Least.{count_by}
use Rattle.model.specs.Numbers.{answer_refusal, answer_head, reading_refusal, reading_value, count_refusal, count_value, linear_test_refusal, linear_test_value}

module _ (g : Refusal) where
  pub answer-done : (w : ℕ) → is_none g ≡ true → (answer_refusal (answer_by g w) ≡ no_refusal) × (answer_head (answer_by g w) ≡ w)
  unfolding answer_by
  answer-done w e = rw e (refl, refl)

  pub answer-refused : (w : ℕ) → is_none g ≡ false → (answer_refusal (answer_by g w) ≡ g) × (answer_head (answer_by g w) ≡ 0)
  unfolding answer_by
  answer-refused w e = rw e (refl, refl)

  pub reading-done : (x : Float) → is_none g ≡ true → (reading_refusal (read_by g x) ≡ no_refusal) × (reading_value (read_by g x) ≡ x)
  unfolding read_by
  reading-done x e = rw e (refl, refl)

  pub reading-refused : (x : Float) → is_none g ≡ false → (reading_refusal (read_by g x) ≡ g) × (reading_value (read_by g x) ≡ zero_f)
  unfolding read_by
  reading-refused x e = rw e (refl, refl)

  pub count-done : (k : ℕ) → is_none g ≡ true → (count_refusal (count_by g k) ≡ no_refusal) × (count_value (count_by g k) ≡ k)
  unfolding count_by
  count-done k e = rw e (refl, refl)

  pub count-refused : (k : ℕ) → is_none g ≡ false → (count_refusal (count_by g k) ≡ g) × (count_value (count_by g k) ≡ 0)
  unfolding count_by
  count-refused k e = rw e (refl, refl)

  pub linear-done : (x : Linear) → is_none g ≡ true → (linear_test_refusal (linear_by g x) ≡ no_refusal) × (linear_test_value (linear_by g x) ≡ x)
  unfolding linear_by
  linear-done x e = rw e (refl, refl)

  pub linear-refused : (x : Linear) → is_none g ≡ false → (linear_test_refusal (linear_by g x) ≡ g) × (linear_test_value (linear_by g x) ≡ no_linear)
  unfolding linear_by
  linear-refused x e = rw e (refl, refl)
