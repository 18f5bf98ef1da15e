-- What a planner leans on (document 02, W8), said of the words that the entries are handed. saved-back      an accepted
-- save is read back, bit for bit, under the next version stale-for-ever  of the saves that start from one version one
-- is accepted at most: after it, and any calls but a fresh store, the others are 13 first-accepted  and one is: a save
-- from the current version, in range, with a number left others-stay     nothing but a save, a bringing back or a fresh
-- store of that department changes what is read of it last-eight, dropped, unmade   the versions that are read are the
-- last eight version-stays   what a version holds never changes
use Rattle.std.specs.Prelude.{ℕ, ◌+◌, ◌-◌, ◌≤◌, ◌<◌, Bool, true, false, not, ◌&&◌, ◌≡◌, length, set, drop, eqb, ltb}
use Rattle.std.proofs.Common.{true≢false, ap, ◌∙◌, arith}
use mathlib.Core.List.{List, [], ◌∷◌, ◌++◌}
use Rattle.std.proofs.Math.Path.{refl, sym}
use Rattle.std.proofs.Math.ListN.{get_or}
use Rattle.std.proofs.Math.Seq.{set_out}
use borrow.Author.Tests.{eqb-true, eqb-false, ltb-true, ltb-false, lt-ltb, le-ltb, le-leb, lt-leb, not-true}
use Rattle.lists.specs.Test.{and_left, and_right, decide}
use Rattle.model_settings.specs.declared.Content.{Content}
use Rattle.model_settings.specs.declared.Settled.{Settled}
use Rattle.model_settings.specs.declared.Unsettled.TheVariants.{Stale, NotKept}
use Rattle.std.specs.Prelude.{Ok, Err}
use Rattle.model_settings.specs.Store.{State, Answer, versions, current, content_at, blank, in_range, kept, last_version, ask}
use Rattle.model_settings.specs.Store.{told, refuse}
use Rattle.model_settings.specs.Store.{reading, reading_version, Call, answer, after, onward}
use Rattle.model_settings.specs.Store.Call.{fresh, read, read_version, save, bring_back}
use Rattle.model_settings.specs.Words.{held_at, version_of, valid, put, read_words, read_version_words}
use Rattle.model_settings.specs.Words.{save_words, words_saved}
use Rattle.model_settings.specs.Calls.{answer_on, words_after, words_after_all, after_all}
use Rattle.settings_store.specs.Tests.{ranged, valid-long}
use Rattle.settings_store.specs.Gates.{Accepted, save-accepted, save-done, read_done, put-done}
use Rattle.settings_laws.specs.Sound.{set_here, set_there, length_more, more-old}
use Rattle.settings_laws.specs.Put.{put_version_lem, put-slot}
use Rattle.settings_laws.specs.Agree.{holds-valid}
use Rattle.settings_laws.specs.Sequences.{Stands, one_answer, one-step, all-steps}
use Rattle.settings_laws.specs.Exact.{decode}
use Rattle.settings_laws.specs.Reached.{valid-stands}
use Rattle.settings_laws.specs.Saves.{save_stale}

-- whether a call may change department d
unfoldable pub touches : ℕ → Call → Bool
touches d fresh = true
touches d (read e) = false
touches d (read_version e u) = false
touches d (save e from c) = eqb d e
touches d (bring_back e from u) = eqb d e

-- whether a call makes the store anew
unfoldable pub is_fresh : Call → Bool
is_fresh fresh = true
is_fresh (read e) = false
is_fresh (read_version e u) = false
is_fresh (save e from c) = false
is_fresh (bring_back e from u) = false

-- Of the lists.
onward-other : (d e : ℕ) (a : Answer) (s : State) → eqb d e ≡ false → versions (onward e a s) d ≡ versions s d
unfolding onward
onward-other d e (Ok a) s n = set_there s (versions s e ++ (a.content ∷ [])) e d (eqb-false d e n)
onward-other d e (Err q) s n = refl

pub others-versions : (c : Call) (s : State) (d : ℕ) → touches d c ≡ false → versions (after c s) d ≡ versions s d
unfolding after touches
others-versions fresh s d n = absurd (true≢false n)
others-versions (read e) s d n = refl
others-versions (read_version e u) s d n = refl
others-versions (save e from c) s d n = onward-other d e (answer (save e from c) s) s n
others-versions (bring_back e from u) s d n = onward-other d e (answer (bring_back e from u) s) s n

-- a department's list only grows at its end
pub record Grown (old new : List Content) : Type 0 where
  pub longer : length old ≤ length new
  pub same : (u : ℕ) → u < length old → get_or new u blank ≡ get_or old u blank

stays : {xs : List Content} → Grown xs xs
stays = record { longer = omega arith; same = λ u l. refl }

one_more : (e : ℕ) (c : Content) (s : State) → Grown (versions s e) (versions (set s e (versions s e ++ (c ∷ []))) e)
one_more e c s =
    decide (ltb e (length s))
    (λ t.
    rw (set_here s (versions s e ++ (c ∷ [])) e (ltb-true e (length s) t))
    (record {
      longer = omega (arith, length_more (versions s e) c);
      same = λ u l. more-old (versions s e) c u l;
    }))
    (λ t. rw (set_out s e (versions s e ++ (c ∷ [])) (ltb-false e (length s) t)) stays)

onward-grown : (d e : ℕ) (a : Answer) (s : State) → Grown (versions s d) (versions (onward e a s) d)
unfolding onward
onward-grown d e (Ok a) s =
    decide (eqb d e) (λ q. rw (eqb-true d e q) (one_more e a.content s))
    (λ q. rw (set_there s (versions s e ++ (a.content ∷ [])) e d (eqb-false d e q)) stays)
onward-grown d e (Err q) s = stays

pub call-grown : (c : Call) (s : State) (d : ℕ) → is_fresh c ≡ false → Grown (versions s d) (versions (after c s) d)
unfolding after is_fresh
call-grown fresh s d n = absurd (true≢false n)
call-grown (read e) s d n = record { longer = omega arith; same = λ u l. refl }
call-grown (read_version e u) s d n = record { longer = omega arith; same = λ u l. refl }
call-grown (save e from c) s d n = onward-grown d e (answer (save e from c) s) s
call-grown (bring_back e from u) s d n = onward-grown d e (answer (bring_back e from u) s) s

-- calls none of which makes the store anew
unfoldable pub none_fresh : List Call → Bool
none_fresh [] = true
none_fresh (c ∷ cs) = not (is_fresh c) && none_fresh cs

pub calls-grown :
    (cs : List Call) (s : State) (d : ℕ) → none_fresh cs ≡ true → Grown (versions s d) (versions (after_all cs s) d)
unfolding after_all none_fresh
calls-grown [] s d n = record { longer = omega arith; same = λ u l. refl }
calls-grown (c ∷ cs) s d n =
    let a = call-grown c s d (not-true (is_fresh c) (and_left (not (is_fresh c)) (none_fresh cs) n)) in
    let b = calls-grown cs (after c s) d (and_right (not (is_fresh c)) (none_fresh cs) n) in
    record {
      longer = omega (arith, a.longer, b.longer);
      same = λ u l. b.same u (omega (arith, a.longer))
          ∙ a.same u l;
    }

-- what a version holds never changes, whatever is called, until the store is made anew
pub version-stays :
    (cs : List Call) (s : State) (d u : ℕ) → none_fresh cs ≡ true → u < length (versions s d) → content_at
    (after_all cs s) d u ≡ content_at s d u
version-stays cs s d u n l = (calls-grown cs s d n).same u l

-- the last eight versions are read
module _ (s : State) (d u : ℕ) (low : d < 32) where
  pub last-eight : u ≤ current s d → current s d < u + 8 → answer (read_version d u) s ≡ told u (content_at s d u)
  unfolding answer reading_version kept ask
  last-eight a b = rw (lt-ltb d 32 low, le-leb u (current s d) a, lt-ltb (current s d - u) 8 (omega arith))

  -- and no others
  pub dropped : u + 8 ≤ current s d → answer (read_version d u) s ≡ refuse NotKept
  unfolding answer reading_version kept ask
  dropped a = rw (lt-ltb d 32 low, le-leb u (current s d) (omega arith), le-ltb (current s d - u) 8 (omega arith))

  pub unmade : current s d < u → answer (read_version d u) s ≡ refuse NotKept
  unfolding answer reading_version kept ask
  unmade a = rw (lt-ltb d 32 low, lt-leb u (current s d) a)

-- Of the words.
module _ (w : List ℕ) (d from : ℕ) (c : Content) where
  -- a save from the current version is accepted
  pub first-accepted :
      valid w ≡ true → d < 32 → in_range c ≡ true → from ≡ version_of w d → from < last_version
      → save_words w d from c ≡ told (from + 1) c
  first-accepted h low r e l =
      sym (save-done w d from c h low r e (omega arith)) ∙ ap (λ (v : ℕ). told (v + 1) c) (sym e)

  module _ {a : Settled} (h : Ok a ≡ save_words w d from c) where
    made : Accepted w d from c a
    made = save-accepted w d from c h

    -- the words after an accepted save
    words_are : words_saved w d from c ≡ put w d (version_of w d + 1) c
    words_are = sym (put-done w d h) ∙ ap (λ (x : Settled). put w d x.version x.content) made.is

    stands_saved : Stands (drop 544 w) (after (save d from c) (decode w)) (words_saved w d from c)
    unfolding words_after
    stands_saved = one-step (valid-stands w made.sound) (save d from c)

    small : c.horizon ≤ 255
    small = (ranged c (ap (λ (x : Settled). in_range x.content) (sym made.is) ∙ made.range)).high

    -- an accepted save is read back, bit for bit
    pub saved-back : read_words (words_saved w d from c) d ≡ told (version_of w d + 1) c
    saved-back =
        let x : List ℕ = put w d (version_of w d + 1) c in
        let long = valid-long w made.sound in
        let low = made.department in
        let v : version_of x d ≡ version_of w d + 1 = put_version_lem w d (version_of w d + 1) c long low in
        let t : valid x ≡ true = ap valid (sym words_are) ∙ holds-valid stands_saved.sound stands_saved.holds in
        ap (λ z. read_words z d) words_are
        ∙ (sym (read_done x d t low)
        ∙ (ap (λ (n : ℕ). told n (held_at x d n)) v ∙ ap (told (version_of w d + 1))
        (put-slot w d (version_of w d + 1) c long low small)))

    now_later : current (after (save d from c) (decode w)) d ≡ version_of w d + 1
    now_later =
        let x : List ℕ = put w d (version_of w d + 1) c in
        sym (stands_saved.holds.each d made.department).version
        ∙ (ap (λ z. version_of z d) words_are ∙ put_version_lem w d (version_of w d + 1) c (valid-long w made.sound)
        made.department)

    -- every later save from the same version is stale
    pub stale-for-ever :
        (cs : List Call) (e : Content) → none_fresh cs ≡ true → in_range e ≡ true → save_words
        (words_after_all cs (words_saved w d from c)) d from e ≡ refuse Stale
    unfolding answer_on
    stale-for-ever cs e n r =
        let s : State = after (save d from c) (decode w) in
        let g = (calls-grown cs s d n).longer in
        one_answer (all-steps stands_saved cs) (save d from e)
        ∙ save_stale (after_all cs s) d e made.department r from (λ q. omega (arith, now_later, made.from))

    -- the other of two planners who started from one version
    pub second_stale-words : (e : Content) → in_range e ≡ true → save_words (words_saved w d from c) d from e ≡ refuse Stale
    unfolding words_after_all none_fresh
    second_stale-words e r = stale-for-ever [] e refl r

-- Nothing but a save or a bringing back of that department, or a fresh store, changes what is read of it.
module _ (w : List ℕ) (h : valid w ≡ true) (c : Call) (d : ℕ) (n : touches d c ≡ false) where
  same_versions : versions (after c (decode w)) d ≡ versions (decode w) d
  same_versions = others-versions c (decode w) d n

  pub others_stay : read_words (words_after c w) d ≡ read_words w d
  unfolding answer_on answer
  others_stay =
      let t = valid-stands w h in
      one_answer (one-step t c) (read d)
      ∙ (ap (λ xs. reading d (length xs - 1) (λ u. get_or xs u blank)) same_versions ∙ sym (one_answer t (read d)))

  pub others_stay-kept : (u : ℕ) → read_version_words (words_after c w) d u ≡ read_version_words w d u
  unfolding answer_on answer
  others_stay-kept u =
      let t = valid-stands w h in
      one_answer (one-step t c) (read_version d u)
      ∙ (ap (λ xs. reading_version d u (length xs - 1) (λ k. get_or xs k blank)) same_versions ∙ sym
      (one_answer t (read_version d u)))
