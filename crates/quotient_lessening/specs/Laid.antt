-- A list laid into a buffer: from q on it holds xs, and every other place below e is as it was.
use Rattle.std.specs.Prelude.{ℕ, ◌+◌, ◌-◌, ◌≤◌, ◌<◌, List, [], ◌∷◌, ◌++◌, ◌≡◌, refl, ltb, length, get_or, take, drop, set, Float}
use Rattle.std.proofs.Common.{sym, ap, ◌∙◌, arith, add-zero, le_refl, add-one, length-append, length-drop}
use Rattle.std.proofs.Common.{length-set, get_or-append-add, get_or-set_same, get_or-set_other, get_or-take}
use Rattle.std.proofs.Common.{get_or-drop, length-take-le, ltb-true, ltb-false}
use Rattle.std.proofs.Math.ListN.{get_or-append}
use Rattle.std.specs.Float.{nan}
use borrow.Rule.Slice.PartMut.{put_mid}
use Rattle.lists.specs.Test.{decide}
use Rattle.lists.specs.Table.{table, table_same, table-all, table-take, length-table}
use Rattle.lists.specs.Part.{part}
use Rattle.lists.specs.Fill.{part-table}

pub record Laid (q : ℕ) (xs : List Float) (e : ℕ) (w w' : List Float) : Type 0 where
  pub len : length w' ≡ length w
  pub holds : (i : ℕ) → i < length xs → get_or w' (q + i) nan ≡ get_or xs i nan
  pub low : (i : ℕ) → i < q → get_or w' i nan ≡ get_or w i nan
  pub high : (i : ℕ) → q + length xs ≤ i → i < e → get_or w' i nan ≡ get_or w i nan

pub laid_none : {q e : ℕ} {w : List Float} → Laid q [] e w w
laid_none = record { len = refl; holds = λ i h. absurd (omega arith); low = λ i h. refl; high = λ i h l. refl }

-- one place stored
pub laid-set : (w : List Float) (i : ℕ) (x : Float) (e : ℕ) → i < length w → Laid i (x ∷ []) e w (set w i x)
laid-set w i x e h =
    record {
      len = length-set w i x;
      holds = λ j l. let z : j ≡ 0 = omega arith in rw (z, add-zero i) (get_or-set_same w i x nan h);
      low = λ j l. get_or-set_other w i j x nan (λ z. absurd (omega arith));
      high = λ j l m. get_or-set_other w i j x nan (λ z. absurd (omega arith));
    }

-- what follows was laid behind it
pub laid_append : {q e f m : ℕ} {xs ys w w' w'' : List Float} → Laid q xs e w w' → m ≡ q + length xs → Laid m ys f w' w'' → e ≤ f → Laid q (xs ++ ys) e w w''
laid_append {q} {e} {f} {m} {xs} {ys} {w} {w'} {w''} a n b h =
    let l : length (xs ++ ys) ≡ length xs + length ys = length-append xs ys in
    record {
      len = b.len ∙ a.len;
      holds = λ i p. decide (ltb i (length xs))
          (λ t.
          let o = ltb-true i (length xs) t in
          b.low (q + i) (omega arith) ∙ (a.holds i o ∙ sym (get_or-append xs ys nan i o)))
          (λ t.
          let o = ltb-false i (length xs) t in
          let z : q + i ≡ m + (i - length xs) = omega arith in
          let y : length xs + (i - length xs) ≡ i = omega arith in
          ap (λ (j : ℕ). get_or w'' j nan) z
          ∙ (b.holds (i - length xs) (omega arith)
          ∙ (sym (get_or-append-add xs ys (i - length xs) nan) ∙ ap (λ (j : ℕ). get_or (xs ++ ys) j nan) y)));
      low = λ i p. b.low i (omega arith) ∙ a.low i p;
      high = λ i p k. b.high i (omega arith) (omega arith) ∙ a.high i (omega arith) k;
    }

-- parts that hold the same places
same-part : (f t : ℕ) (w w' : List Float) → f ≤ t → t ≤ length w → length w' ≡ length w
    → ((i : ℕ) → f ≤ i → i < t → get_or w' i nan ≡ get_or w i nan) → part f t w' ≡ part f t w
same-part f t w w' h l n e =
    part-table nan w' f (t - f) (omega arith)
    ∙ (table_same _ _ (t - f) (λ i p. e (f + i) (omega arith) (omega arith)) ∙ sym (part-table nan w f (t - f) (omega arith)))

module _ {q e : ℕ} {xs w w' : List Float} (a : Laid q xs e w w') where
  -- the part itself
  pub laid-part : (t : ℕ) → t ≡ q + length xs → t ≤ length w → part q t w' ≡ xs
  laid-part t h l =
      let n : t - q ≡ length xs = omega arith in
      part-table nan w' q (t - q) (let z = a.len in omega arith)
      ∙ (ap (λ (m : ℕ). table m (λ i. get_or w' (q + i) nan)) n ∙ (table_same _ _ (length xs) (λ i p. a.holds i p) ∙ table-all nan xs))

  pub laid-under : (f t : ℕ) → f ≤ t → t ≤ q → t ≤ length w → part f t w' ≡ part f t w
  laid-under f t h l m = same-part f t w w' h m a.len (λ i p k. a.low i (omega arith))

  pub laid-front : (n : ℕ) → n ≤ q → n ≤ length w → take n w' ≡ take n w
  laid-front n h m = sym (table-take nan w' n (let z = a.len in omega arith)) ∙ (table_same _ _ n (λ i p. a.low i (omega arith)) ∙ table-take nan w n m)

  pub laid-over : (f t : ℕ) → f ≤ t → q + length xs ≤ f → t ≤ e → t ≤ length w → part f t w' ≡ part f t w
  laid-over f t h p l m = same-part f t w w' h m a.len (λ i k o. a.high i (omega arith) (omega arith))

-- a loop that lays f into a buffer, one place a turn
pub laid_more : (q i : ℕ) (f : ℕ → Float) {e : ℕ} {w w' : List Float} {x : Float} → Laid q (table i f) e w w' → x ≡ f i
    → q + i < length w → Laid q (table (i + 1) f) e w (set w' (q + i) x)
unfolding table
laid_more q i f {e} {w} {w'} {x} a p h =
    let n : length (table i f) ≡ i = length-table f i in
    rw (add-one i, ← p) (laid_append a (omega arith) (laid-set w' (q + i) x e (let z = a.len in omega arith)) (le_refl e))

-- what changed above e in between does not matter
pub laid-above : {q e f m : ℕ} {xs ys w w' w'' : List Float} → Laid q xs e w w' → q + length xs ≤ e → e ≤ m → Laid m ys f w' w'' → Laid q xs e w w''
laid-above {q} a n h b =
    record {
      len = b.len ∙ a.len;
      holds = λ i p. b.low (q + i) (omega arith) ∙ a.holds i p;
      low = λ i p. b.low i (omega arith) ∙ a.low i p;
      high = λ i p k. b.low i (omega arith) ∙ a.high i p k;
    }

-- a part that was lent comes back
pub laid-mid : (p m : ℕ) (w xs : List Float) → length xs ≡ m → p + m ≤ length w → Laid p xs (length w) w (put_mid p m w xs)
laid-mid p m w xs e h =
    let a : List Float = take p w in
    let rest : List Float = drop m (drop p w) in
    let n : length a ≡ p = length-take-le p w (omega arith) in
    record {
      len = simp (length-append, length-drop, n) (omega arith);
      holds = λ i l.
          let z : p + i ≡ length a + i = omega arith in
          ap (λ (j : ℕ). get_or (a ++ (xs ++ rest)) j nan) z ∙ (get_or-append-add a (xs ++ rest) i nan ∙ get_or-append xs rest nan i l);
      low = λ i l. get_or-append a (xs ++ rest) nan i (omega arith) ∙ get_or-take p w i nan l;
      high = λ i l k.
          let j : ℕ = i - (p + length xs) in
          let z : i ≡ length a + (length xs + j) = omega arith in
          let y : p + (m + j) ≡ i = omega arith in
          ap (λ (x : ℕ). get_or (a ++ (xs ++ rest)) x nan) z
          ∙ (get_or-append-add a (xs ++ rest) (length xs + j) nan
          ∙ (get_or-append-add xs rest j nan ∙ (get_or-drop m (drop p w) j nan ∙ (get_or-drop p w (m + j) nan ∙ ap (λ (x : ℕ). get_or w x nan) y))));
    }
