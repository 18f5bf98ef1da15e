use mathlib.Core.Path.{◌≡◌, refl, sym, ap, ◌∙◌}
use mathlib.Core.List.{List, ◌++◌, ◌∷◌, []}
use Prim.Native.Nat.{ℕ, zero, suc}
use lib.ListN.{drop}
use lib.Seq.{length-take-le}
use lib.Ieee.{Float}
use Rattle.std.specs.Prelude.{replicate}
use Rattle.std.proofs.Math.Numerals.{add-one}
use Rattle.std.proofs.lemmas.List.{replicate_more}
use Rattle.lists.specs.Table.{table}
use Rattle.model.specs.Refusals.{zeros}
use Rattle.recipes.proofs.stop.leave_zeros.Goals as goal

-- a list of one number, as a table
same-table : (n x : ℕ) → replicate n x ≡ table n (λ k. x)
unfolding table
same-table zero x = refl
same-table (suc n) x =
    ap (λ (m : ℕ). replicate m x) (sym (add-one n)) ∙ (sym (replicate_more n x) ∙ ap (λ (l : List ℕ). l ++ (x ∷ [])) (same-table n x))

pub returns : goal.returns
returns c =
    record {
      values = ap (λ (x : List Float). x ++ drop c.args.total c.args.pool.now) (c.clear.ensures ∙ ap (λ (n : ℕ). zeros n)
          (length-take-le _ _ c.requires.0));
      words = ap (λ (x : List ℕ). x ++ drop c.args.count c.args.words.now)
          (c.fill.ensures.after (λ y e. e) ∙ (same-table _ 0 ∙ ap (λ (n : ℕ). table n (λ k. 0)) (length-take-le _ _ c.requires.1)));
    }
