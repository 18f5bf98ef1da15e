-- The theorem: of any calls after a fresh one, the answers on words are the lists' answers, and the words hold the
-- lists.
use Prim.Native.Nat.{ℕ, ◌+◌, ◌*◌, ◌/◌, ◌%◌, ◌≤◌, ◌<◌}
use Rattle.std.proofs.Math.Bool.{cond}
use mathlib.Core.List.{List, [], ◌∷◌}
use Rattle.std.specs.Prelude.{◌≡◌, refl, length, drop, eqb}
use Rattle.std.proofs.Math.Path.{ap, subst}
use Rattle.std.proofs.Common.{◌∙◌, le-leb, ne_eqb}
use native.Mathlib.Omega.{arith}
use Rattle.std.proofs.Math.ListN.{get_or, get_or-append}
use Rattle.std.proofs.Math.Seq.{drop_at}
use Rattle.std.proofs.Math.Arith.{digits_mod}
use Rattle.lists.specs.Table.{table, front, length-table, length_front, table_at}
use Rattle.model_settings.specs.declared.Content.{Content}
use Rattle.model_settings.specs.declared.Settled.{Settled}
use Rattle.std.specs.Prelude.{Ok, Err}
use Rattle.model_settings.specs.Store.{State, Answer, versions, blank, fresh_content, fresh_state, told, ask, Call, answer}
use Rattle.model_settings.specs.Store.{after, onward}
use Rattle.model_settings.specs.Store.Call.{fresh, read, read_version, save, bring_back}
use Rattle.model_settings.specs.Words.{word, slot_at, fresh_word, fresh_words, fresh_answer}
use Rattle.model_settings.specs.Words.{save_words, bring_words, put_answer}
use Rattle.settings_store.specs.Tests.{same-fields}
use Rattle.settings_store.specs.Gates.{Accepted, save-accepted, bring-accepted}
use Rattle.model_settings.specs.Calls.{answer_on, words_after, answers_on, words_after_all, answers, after_all}
use Rattle.settings_laws.specs.Sound.{Sound, HoldsList, Holds, good_more, sound-set, sound-fresh}
use Rattle.settings_laws.specs.Sound.{fresh-versions}
use Rattle.settings_laws.specs.Put.{put-behind}
use Rattle.settings_laws.specs.Held.{holds-put}
use Rattle.settings_laws.specs.Agree.{read-agrees, version-agrees, save-agrees, bring-agrees}

-- words w stand for lists s, and behind the store is what was there
pub record Stands (rest : List ℕ) (s : State) (w : List ℕ) : Type 0 where
  pub sound : Sound s
  pub holds : Holds s w
  pub behind : drop 544 w ≡ rest

-- a fresh store
module _ (w : List ℕ) (long : 544 ≤ length w) where
  fresh_at : (d j : ℕ) → d < 32 → j < 17 → word (front 544 fresh_word w) (d * 17 + j) ≡ cond (eqb j 2) 1 0
  unfolding fresh_word
  fresh_at d j a b =
      get_or-append (table 544 fresh_word) (drop 544 w) 0 (d * 17 + j) (omega (arith, length-table fresh_word 544))
      ∙ (table_at 0 fresh_word 544 (d * 17 + j) (omega arith) ∙ ap (λ (z : ℕ). cond (eqb z 2) 1 0) (digits_mod d b))

  fresh-zero : (d i j : ℕ) → d < 32 → j < 17 → i ≡ d * 17 + j → (j ≡ 2 → ⊥) → word (front 544 fresh_word w) i ≡ 0
  fresh-zero d i j a b e n =
      ap (word (front 544 fresh_word w)) e ∙ (fresh_at d j a b ∙ ap (λ z. cond z 1 0) (ne_eqb j 2 n))

  fresh_list : (d : ℕ) → d < 32 → HoldsList (front 544 fresh_word w) d (fresh_content ∷ [])
  unfolding slot_at
  fresh_list d l =
      let x : List ℕ = front 544 fresh_word w in
      record {
        version = fresh-zero d (d * 17) 0 l (omega arith) (omega arith) (λ e. omega arith);
        slot = λ u a _.
            let e : 0 ≡ u = omega arith in
            let p : word x (d * 17 + 1 + 2 * 0) ≡ 0 = fresh-zero d (d * 17 + 1 + 2 * 0) 1 l (omega arith)
            (omega arith) (λ q. omega arith) in
            let e2 : d * 17 + 2 + 2 * 0 ≡ d * 17 + 2 = omega arith in
            let q : word x (d * 17 + 2 + 2 * 0) ≡ 1 = ap (word x) e2 ∙ fresh_at d 2 l (omega arith) in
            subst (λ z. slot_at x d (z % 8) ≡ get_or (fresh_content ∷ []) z blank) e
            (same-fields (slot_at x d 0) fresh_content p (ap (λ (z : ℕ). z % 256) q) (ap (λ (z : ℕ). z / 256) q));
        unmade = λ k a b.
            let p : word x (d * 17 + 1 + 2 * k) ≡ 0 = fresh-zero d (d * 17 + 1 + 2 * k) (1 + 2 * k) l (omega arith)
            (omega arith) (λ q. omega arith) in
            let q : word x (d * 17 + 2 + 2 * k) ≡ 0 = fresh-zero d (d * 17 + 2 + 2 * k) (2 + 2 * k) l (omega arith)
            (omega arith) (λ q. omega arith) in
            same-fields (slot_at x d k) blank p (ap (λ (z : ℕ). z % 256) q) (ap (λ (z : ℕ). z / 256) q);
      }

  pub fresh-stands : Stands (drop 544 w) fresh_state (fresh_words w)
  unfolding fresh_words
  fresh-stands =
      rw (le-leb 544 (length w) long)
      (record {
        sound = sound-fresh;
        holds =
            record {
              long = rw (length_front fresh_word 544 w long) long;
              each = λ d l. rw (fresh-versions d l)
                  (fresh_list d l);
            };
        behind = drop_at (table 544 fresh_word) (drop 544 w) 544 (length-table fresh_word 544);
      })

  pub fresh-agrees : fresh_answer w ≡ told 0 fresh_content
  unfolding fresh_answer ask
  fresh-agrees = rw (le-leb 544 (length w) long)

-- an answer of a save or of bringing back moves lists and words alike
pub moved : {rest : List ℕ} {s : State} {w : List ℕ} {d f : ℕ} {c : Content} (r : Answer) → Stands rest s w
    → ((a : Settled) → ◌≡◌ {A = Answer} (Ok a) r → Accepted w d f c a) → Stands rest (onward d r s) (put_answer w d r)
unfolding onward put_answer
moved {rest} {s} {w} {d} {f} {c} (Ok a) t h =
    let p = h a refl in
    let l = p.department in
    let x = t.sound.each d l in
    let v : a.version ≡ length (versions s d) = omega (arith, p.version, (t.holds.each d l).version, x.made) in
    rw v
    (record {
      sound =
          sound-set d t.sound
          (good_more a.content x p.range (omega (arith, p.room, (t.holds.each d l).version, x.made))) l;
      holds = holds-put d a.content t.sound t.holds l p.range;
      behind = put-behind w d (length (versions s d)) a.content t.holds.long l ∙ t.behind;
    })
moved (Err q) t h = t

module _ {rest : List ℕ} {s : State} {w : List ℕ} (t : Stands rest s w) where
  pub one_answer : (c : Call) → answer_on c w ≡ answer c s
  unfolding answer_on answer
  one_answer fresh = fresh-agrees w t.holds.long
  one_answer (read d) = read-agrees t.sound t.holds d
  one_answer (read_version d u) = version-agrees t.sound t.holds d u
  one_answer (save d from c) = save-agrees t.sound t.holds d from c
  one_answer (bring_back d from u) = bring-agrees t.sound t.holds d from u

  pub one-step : (c : Call) → Stands rest (after c s) (words_after c w)
  unfolding words_after after answer
  one-step fresh = rw (← t.behind) (fresh-stands w t.holds.long)
  one-step (read d) = t
  one-step (read_version d u) = t
  one-step (save d from c) = rw (← save-agrees t.sound t.holds d from c)
      (moved (save_words w d from c) t (λ a e. save-accepted w d from c e))
  one-step (bring_back d from u) = rw (← bring-agrees t.sound t.holds d from u)
      (moved (bring_words w d from u) t (λ a e. bring-accepted w d from u e))

pub all-answers :
    {rest : List ℕ} {s : State} {w : List ℕ} → Stands rest s w → (cs : List Call) → answers_on cs w ≡ answers cs s
unfolding answers_on answers
all-answers t [] = refl
all-answers {rest} {s} {w} t (c ∷ cs) = ap (λ a. a ∷ answers_on cs (words_after c w)) (one_answer t c) ∙ ap
    (λ l. answer c s ∷ l) (all-answers {s = after c s} {w = words_after c w} (one-step t c) cs)

pub all-steps :
    {rest : List ℕ} {s : State} {w : List ℕ} → Stands rest s w → (cs : List Call) → Stands rest (after_all cs s)
    (words_after_all cs w)
unfolding words_after_all after_all
all-steps t [] = t
all-steps {rest} {s} {w} t (c ∷ cs) = all-steps {s = after c s} {w = words_after c w} (one-step t c) cs

-- a fresh store, then any calls: the answers, and the words
pub sequence-answers :
    (w : List ℕ) → 544 ≤ length w → (cs : List Call) → answers_on cs (fresh_words w) ≡ answers cs fresh_state
sequence-answers w h cs = all-answers (fresh-stands w h) cs

pub sequence-words :
    (w : List ℕ) → 544 ≤ length w → (cs : List Call) → Stands (drop 544 w) (after_all cs fresh_state)
    (words_after_all cs (fresh_words w))
sequence-words w h cs = all-steps (fresh-stands w h) cs
