use mathlib.Core.Path.{◌≡◌, ap, ◌∙◌}
use Prim.Native.Nat.{ℕ, ◌+◌, ◌*◌, ◌≤◌}
use lib.Ieee.{of_bits, binary32, binary64}
use native.Mathlib.Omega.{arith}
use Rattle.npy_files.specs.Values.{bytes_of, value_at}
use Rattle.npy_columns.specs.Lines.{width_of, width_four, width-eight}
use Rattle.npy_columns.proofs.value.Goals as goal

four-fits : (b d v m : ℕ) → b ≡ 4 → d + bytes_of (width_of b) * v + bytes_of (width_of b) ≤ m → d + 4 * v + 4 ≤ m
unfolding bytes_of
four-fits b d v m e h = rw (width_four b e) at h

eight-fits : (b d v m : ℕ) → (b ≡ 4 → ⊥) → d + bytes_of (width_of b) * v + bytes_of (width_of b) ≤ m → d + 8 * v + 8 ≤ m
unfolding bytes_of
eight-fits b d v m e h = rw (width-eight b e) at h

pub overflow_mul-v : goal.overflow_mul-v
overflow_mul-v g c = omega (arith, four-fits g.row.WIDTH _ _ _ c.if-this-eq4.true c.requires)

pub overflow_add-at : goal.overflow_add-at
overflow_add-at g c = omega (arith, four-fits g.row.WIDTH _ _ _ c.if-this-eq4.true c.requires)

pub little_4-requires : goal.little_4-requires
little_4-requires g c = four-fits g.row.WIDTH _ _ _ c.if-this-eq4.true c.requires

pub float_of_4-requires : goal.float_of_4-requires
float_of_4-requires g c = c.little_4.ensures.1

pub overflow_mul-v-else-this-eq4 : goal.overflow_mul-v-else-this-eq4
overflow_mul-v-else-this-eq4 g c = omega (arith, eight-fits g.row.WIDTH _ _ _ c.if-this-eq4.false c.requires)

pub overflow_add-at-else-this-eq4 : goal.overflow_add-at-else-this-eq4
overflow_add-at-else-this-eq4 g c = omega (arith, eight-fits g.row.WIDTH _ _ _ c.if-this-eq4.false c.requires)

pub little_8-requires : goal.little_8-requires
little_8-requires g c = eight-fits g.row.WIDTH _ _ _ c.if-this-eq4.false c.requires

pub returns-then-this-eq4 : goal.returns-then-this-eq4
unfolding value_at
returns-then-this-eq4 g c =
    rw (width_four g.row.WIDTH c.if-this-eq4.true) (c.float_of_4.ensures ∙ ap (of_bits binary32) c.little_4.ensures.0)

pub returns-else-this-eq4 : goal.returns-else-this-eq4
unfolding value_at
returns-else-this-eq4 g c =
    rw (width-eight g.row.WIDTH c.if-this-eq4.false) (c.float_of.ensures ∙ ap (of_bits binary64) c.little_8.ensures)
