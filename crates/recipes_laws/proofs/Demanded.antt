-- What rests on laws of specs/ (Demanded).
use Rattle.std.specs.Prelude.{ℕ, List, Float}
use Rattle.model_recipes.specs.Recipe.{Recipe}
use Rattle.recipes_laws.specs.Stopped.{stop-none}
use Rattle.recipes_laws.specs.Demand.{Demand3}
use Rattle.recipes_laws.specs.Demanded.{enough, finished, stopped-at}

module _ (it : Recipe) (cs : List Float) (pool : List Float) (words : List ℕ) (scratch : List Float) where
  pub demand_3 : Demand3 it cs pool words scratch
  demand_3 =
      record {
        finishes = λ p f. (finished it cs pool words scratch) ((enough it cs pool words scratch) p) (stop-none it cs f);
        finishes_plain = λ p f.
            (finished it cs pool words scratch) ((enough it cs pool words scratch) p)
            (stop-none it cs (λ i s. f i s.among s.stops.of_kind));
        stops = λ p. (stopped-at it cs pool words scratch) ((enough it cs pool words scratch) p);
      }
