-- Demand 3 is kept.
use Rattle.std.specs.Prelude.{ℕ, List, ◌≡◌, length, Float}
use Rattle.std.proofs.Math.Path.{ap}
use Rattle.std.proofs.Common.{arith}
use Rattle.model.specs.declared.Header.{Header}
use Rattle.model.specs.declared.Refusal.{Refusal}
use Rattle.model.specs.Poly.{Poly}
use Rattle.model.specs.Refusals.{no_refusal}
use Rattle.model_recipes.specs.Recipe.{Recipe}
use Rattle.model_recipes.specs.Check.{check_refusal}
use Rattle.model_recipes.specs.Run.{run_stop, run_refusal, run_end, run_answer, run_pool, run_words, run_scratch}
use Rattle.model_recipes.specs.Stops.{FirstStop}
use Rattle.shape_words.specs.Rules.{Good, header-good}
use Rattle.shape.specs.Keeps.{Keeps, keeps-good}
use Rattle.recipes_laws.specs.Numbers.{numbers}
use Rattle.recipes_laws.specs.Ends.{end-stopped, end-done}
use Rattle.recipes_laws.specs.Stopped.{stop-at, stop-none}
use Rattle.recipes_laws.specs.Refuses.{Lent, run_none}
use Rattle.recipes_laws.specs.Values.{follows-all, step-computed, inputs-first}
use Rattle.recipes_laws.specs.Buffers.{word_kept, coeffs-kept}
use Rattle.recipes_laws.specs.Demand.{AsAnnounced, Finished, StoppedAt, Provided, Demand3}

announced_of_lem : {h : Header} {v : Poly} → Good h → Keeps h v → AsAnnounced h v
announced_of_lem g k =
    let t = keeps-good g k in
    record {
      vars = k.under.vars;
      limits = k.under.limits;
      cap = k.under.cap;
      lengths = k.under.most;
      rules = header-good t.regular.rules t.most;
      full = k.full;
    }

module _ (it : Recipe) (cs : List Float) (pool : List Float) (words : List ℕ) (scratch : List Float) where
  abbrev r : Refusal
  r = run_refusal it cs pool words scratch

  -- what the premises say
  pub record Enough : Type 0 where
    none : (check_refusal it).number ≡ 0
    lent : Lent it (length cs) (length pool) (length words) (length scratch)

  pub enough : Provided it cs pool words scratch → Enough
  enough p =
      let n = numbers it p.places p.most p.inputs p.accepted in
      record {
        none = n.none;
        lent = record {
          coeffs = omega (arith, n.inputs_are, p.coefficients);
          pool = omega (arith, n.pool_is, p.pool_long);
          words = p.words_long;
          scratch = omega (arith, n.most_is, p.scratch_long);
        };
      }

  not_refused : Enough → r.number ≡ 0
  not_refused n = ap (λ (x : Refusal). x.number) (run_none it cs pool words scratch n.none n.lent)

  pub finished : Enough → run_stop it cs ≡ no_refusal → Finished it cs pool words scratch
  unfolding run_answer run_end
  finished n e =
      let none = n.none in
      let l = n.lent in
      let z : r.number ≡ 0 = not_refused n in
      let y : (run_stop it cs).number ≡ 0 = ap (λ (x : Refusal). x.number) e in
      let f = follows-all it cs none l.coeffs l.scratch in
      record {
        done = rw (end-done r (run_stop it cs) z y);
        inputs = inputs-first it cs none l.coeffs l.scratch;
        steps = λ i h.
            record {
              announced = announced_of_lem (f.good.at _) (f.keeps _);
              computed = step-computed it cs none l.coeffs l.scratch i h;
              word = word_kept it cs f pool words scratch z y i h;
              coeffs = coeffs-kept it cs f pool words scratch z y i h;
            };
      }

  pub stopped-at : Enough → (i : ℕ) → FirstStop it cs i → StoppedAt it cs pool words scratch i
  unfolding run_answer run_pool run_words run_scratch run_end
  stopped-at n i s =
      let e = stop-at it cs i s in
      let d = end-stopped r (run_stop it cs) (not_refused n) (λ z. let k = ap (λ (x : Refusal). x.number) e in omega (arith, z, k)) in
      record { answer = rw (d, e); pool_zero = rw d; words_zero = rw d; scratch_zero = rw d }
