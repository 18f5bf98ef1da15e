-- One line joined with another, place by place.
use Rattle.std.specs.Prelude.{ℕ, zero, suc, ◌≤◌, ◌<◌, List, [], ◌∷◌, ◌++◌, Bool, ◌≡◌, refl, replicate, length, get_or, Float}
use Rattle.std.specs.Float.{nan}
use Rattle.std.proofs.Common.{sym, ap, ◌∙◌, lt-ltb, le-ltb}
use Rattle.std.proofs.Math.Numerals.{add-one}
use Rattle.std.proofs.lemmas.List.{replicate_more}
use Rattle.lists.specs.Table.{table}
use Rattle.model.specs.Add.{join}
use Rattle.blocks.specs.Rows.{line_joined}

module _ (minus : Bool) (xs old : List Float) (k : ℕ) where
  pub line-more : {x : Float} → x ≡ get_or old k nan → k < length xs → join minus x (get_or xs k nan) ≡ line_joined minus xs old k
  line-more e h = rw (e, lt-ltb _ _ h)

  pub line-rest : length xs ≤ k → line_joined minus xs old k ≡ get_or old k nan
  line-rest h = rw (le-ltb _ _ h)

-- a list of one value, as a table
pub same-table : (n : ℕ) (x : Float) → replicate n x ≡ table n (λ k. x)
unfolding table
same-table zero x = refl
same-table (suc n) x =
    ap (λ (m : ℕ). replicate m x) (sym (add-one n)) ∙ (sym (replicate_more n x) ∙ ap (λ (l : List Float). l ++ (x ∷ [])) (same-table n x))
