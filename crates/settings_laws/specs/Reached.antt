-- Sound lists are those that calls from a fresh store make; so the test is exact, and decoding undoes encoding.
use Rattle.std.specs.Prelude.{ℕ, zero, suc, ◌+◌, ◌-◌, ◌≤◌, ◌<◌, true, List, [], ◌∷◌, ◌++◌, ◌≡◌, refl, replicate, length, get_or, set, take, drop}
use Rattle.std.proofs.Common.{append-nil, sym, ap, subst, ◌∙◌, arith, add-one, drop_of_length-le, take-suc, take_all}
use Rattle.std.proofs.Common.{set-set, length-take-le, get_or-append-add, get_or-drop}
use Rattle.std.proofs.lemmas.List.{length-replicate, set-get_or}
use Rattle.lists.specs.Table.{table, front, length-table, length_front, front-none, front-more, table-all}
use Rattle.model_settings.specs.declared.Content.{Content}
use Rattle.model_settings.specs.Store.{State, versions, current, content_at, blank, fresh_content, fresh_state}
use Rattle.model_settings.specs.Store.{last_version, kept, Call, after}
use Rattle.model_settings.specs.Store.Call.{save}
use Rattle.model_settings.specs.Words.{encode, held_at, version_of, valid, fresh_words}
use Rattle.settings_store.specs.Tests.{valid-long}
use Rattle.settings_laws.specs.Sound.{GoodList, Sound, sound-fresh, set_here, fresh-versions}
use Rattle.settings_laws.specs.Agree.{kept_same}
use Rattle.model_settings.specs.Calls.{after_all, words_after_all}
use Rattle.settings_laws.specs.Sequences.{Stands, sequence-words}
use Rattle.settings_laws.specs.Encoded.{stands_encoded}
use Rattle.settings_laws.specs.Exact.{decode, decode-sound, decode-holds}
use Rattle.settings_laws.specs.Saves.{save-after}

-- lists that some calls from the fresh ones make
pub record Reached (s : State) : Type 0 where
  pub calls : List Call
  pub is : after_all calls fresh_state ≡ s

after_more : (cs : List Call) (c : Call) (s : State) → after_all (cs ++ (c ∷ [])) s ≡ after c (after_all cs s)
unfolding after_all
after_more [] c s = refl
after_more (b ∷ cs) c s = after_more cs c (after b s)

pub reach-fresh : Reached fresh_state
unfolding after_all
reach-fresh = record { calls = []; is = refl }

pub reach-more : {s : State} → Reached s → (c : Call) → Reached (after c s)
reach-more r c =
    record { calls = r.calls ++ (c ∷ []); is = after_more r.calls c fresh_state ∙ ap (after c) r.is }

-- v saves make a department's list, whose first version is there
module _ (s : State) (d : ℕ) (xs : List Content) (low : d < 32) (g : GoodList xs) (many : length s ≡ 32)
    (r : Reached s) (begun : versions s d ≡ fresh_content ∷ []) where
  grown : (n : ℕ) → suc n ≤ length xs → Reached (set s d (take (suc n) xs))
  grown zero h =
      let e : take 1 xs ≡ fresh_content ∷ [] = take-suc xs 0 blank h ∙ ap (λ c. c ∷ []) g.first in
      subst Reached (sym (ap (set s d) (e ∙ sym begun) ∙ set-get_or s d [])) r
  grown (suc n) h =
      let ys : List Content = take (suc n) xs in
      let t : State = set s d ys in
      let c : Content = get_or xs (suc n) blank in
      let at : versions t d ≡ ys = set_here s ys d (omega arith) in
      let len : length (versions t d) ≡ suc n = ap length at ∙ length-take-le (suc n) xs (omega arith) in
      let room : current t d < last_version = omega (arith, g.most) in
      let made : after (save d (current t d) c) t ≡ set s d (take (suc (suc n)) xs) =
      save-after t d c low (g.range (suc n) h) room
      ∙ (ap (λ l. set t d (l ++ (c ∷ []))) at ∙
      (set-set s d ys (ys ++ (c ∷ [])) ∙ ap (set s d) (sym (take-suc xs (suc n) blank h)))) in
      subst Reached made (reach-more (grown n (omega arith)) (save d (current t d) c))

  pub reach_list : Reached (set s d xs)
  reach_list =
      let m : suc (length xs - 1) ≡ length xs = omega (arith, g.made) in
      subst (λ l. Reached (set s d l)) (ap (λ (k : ℕ). take k xs) m ∙ take_all (length xs) xs (omega arith))
      (grown (length xs - 1) (omega (arith, g.made)))

-- the departments one after the other
module _ (s : State) (g : Sound s) where
  part : ℕ → State
  part n = front n (versions s) fresh_state

  length-fresh : length fresh_state ≡ 32
  length-fresh = sound-fresh.many

  part-next :
      (n : ℕ) → n < 32 → set (front n (versions s) fresh_state) n (versions s n) ≡ front (n + 1)
      (versions s) fresh_state
  part-next n h = front-more (versions s) n fresh_state (omega (arith, length-fresh))

  part-begun : (n : ℕ) → n < 32 → versions (front n (versions s) fresh_state) n ≡ fresh_content ∷ []
  part-begun n h =
      let e : n ≡ length (table n (versions s)) + 0 = omega (arith, length-table (versions s) n) in
      let z : n + 0 ≡ n = omega arith in
      ap (λ (k : ℕ). get_or (front n (versions s) fresh_state) k []) e
      ∙ (get_or-append-add (table n (versions s)) (drop n fresh_state) 0 []
      ∙ (get_or-drop n fresh_state 0 [] ∙ (ap (λ (k : ℕ). get_or fresh_state k []) z ∙ fresh-versions n h)))

  part_reached : (n : ℕ) → n ≤ 32 → Reached (front n (versions s) fresh_state)
  part_reached zero h = subst Reached (front-none (versions s) fresh_state) reach-fresh
  part_reached (suc n) h =
      subst Reached (part-next n (omega arith) ∙ ap (λ (k : ℕ). front k (versions s) fresh_state) (add-one n))
      (reach_list (front n (versions s) fresh_state) n (versions s n) (omega arith) (g.each n (omega arith))
      (length_front (versions s) n fresh_state (omega (arith, length-fresh)) ∙ length-fresh)
      (part_reached n (omega arith)) (part-begun n (omega arith)))

  pub sound_reached : Reached s
  sound_reached =
      let e : table 32 (versions s) ≡ s = ap (λ (k : ℕ). table k (versions s)) (sym g.many) ∙ table-all [] s in
      let f : drop 32 fresh_state ≡ [] = drop_of_length-le fresh_state {i = 32} (omega (arith, length-fresh)) in
      subst Reached (ap (λ l. table 32 (versions s) ++ l) f ∙ (append-nil (table 32 (versions s)) ∙ e))
      (part_reached 32 (omega arith))

-- the words of any sound lists, before any words behind the store
pub sound-words :
    (s : State) → Sound s → (w : List ℕ) → 544 ≤ length w → Stands (drop 544 w) s (encode s ++ drop 544 w)
sound-words s g w h =
    let r = sound_reached s g in
    let t : Stands (drop 544 w) s (words_after_all r.calls (fresh_words w)) = subst
    (λ z. Stands (drop 544 w) z (words_after_all r.calls (fresh_words w))) r.is (sequence-words w h r.calls) in
    subst (Stands (drop 544 w) s) (stands_encoded t) t

-- words that pass the test: calls that leave them
pub record Left (w : List ℕ) : Type 0 where
  pub calls : List Call
  pub is : words_after_all calls (fresh_words w) ≡ w

pub valid-stands : (w : List ℕ) → valid w ≡ true → Stands (drop 544 w) (decode w) w
valid-stands w h = record { sound = decode-sound w h; holds = decode-holds w h; behind = refl }

pub valid-left : (w : List ℕ) → valid w ≡ true → Left w
valid-left w h =
    let r = sound_reached (decode w) (decode-sound w h) in
    let t = sequence-words w (valid-long w h) r.calls in
    let u = valid-stands w h in
    record {
      calls = r.calls;
      is = stands_encoded t ∙
          (ap (λ z. encode z ++ drop 544 w) r.is ∙ sym (stands_encoded u));
    }

-- what is read off an encoding: the current number, and the last eight versions
module _ (s : State) (g : Sound s) (w : List ℕ) (long : 544 ≤ length w) (d : ℕ) (low : d < 32) where
  pub version-back : version_of (encode s ++ drop 544 w) d ≡ current s d
  version-back = ((sound-words s g w long).holds.each d low).version

  pub content-back : (u : ℕ) → kept (current s d) u ≡ true → held_at (encode s ++ drop 544 w) d u ≡ content_at s d u
  content-back u k = kept_same g (sound-words s g w long).holds d u low k

-- and calls make no other lists
pub reached-sound : {s : State} → Reached s → Sound s
reached-sound r =
    subst Sound r.is (sequence-words (replicate 544 0) (omega (arith, length-replicate {A = ℕ} 544 0))
    r.calls).sound
