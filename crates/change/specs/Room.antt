-- What the kernels ask. The m.. are the lengths of buffers.
use Rattle.std.specs.Prelude.{ℕ, ◌+◌, ◌*◌, ◌≤◌, ◌<◌, Bool, true, false, ◌≡◌}
use Rattle.model.specs.declared.Header.{Header}
use Rattle.model.specs.declared.Family.TheVariants.{Shift}
use Rattle.model.specs.Header.{limit, stored, no_header}
use Rattle.model.specs.Announced.{announced}
use Rattle.shape_words.specs.Rules.{Ruled}

-- a polynomial under h, and room for what a shift by n in v announces
pub record Shifted (h r : Header) (v n ma mt : ℕ) : Type 0 where
  pub rules : Ruled h
  pub is : r ≡ announced (Shift v n) h no_header
  pub var : v < 4
  pub below : n < limit h v
  pub full : ma ≡ stored h
  pub room : mt ≡ stored r

-- one part: m rows are summed to one, or the rows from m on are kept
pub record PartRoom (all : Bool) (s m ma mt : ℕ) : Type 0 where
  pub small : s ≤ mt
  pub one : all ≡ true → (mt ≡ s) × (m * s ≤ ma)
  pub many : all ≡ false → m * s + mt ≡ ma
