-- A buffer whose first n places were filled.
use Rattle.std.specs.Prelude.{ℕ, ◌≤◌, List, ◌++◌, ◌≡◌, length, take, drop}
use Rattle.std.proofs.Common.{sym, ap, ◌∙◌, arith, length-append, length-take-le, take_at, drop_at}
use Rattle.io.specs.Counts.{IsPrefixLen}

pub filled-front : (n : ℕ) (old new : List ℕ) → n ≤ length old → length new ≡ length (take n old)
    → IsPrefixLen n (new ++ drop n old) × (drop n (new ++ drop n old) ≡ drop n old)
filled-front n old new f e =
    let l : length new ≡ n = e ∙ length-take-le n old f in (
      (omega (arith, length-append new (drop n old)), sym l ∙ ap length (sym (take_at new (drop n old) n l))),
      drop_at new (drop n old) n l,
    )
