-- Two outcomes of a call of the settings store are equal.
use Rattle.std.specs.Prelude.{ℕ, List, ◌≡◌}
use Rattle.model_settings.specs.Promises.{BringBackPromise, FreshPromise, ReadPromise, ReadVersionPromise, SavePromise}
use Rattle.model_settings.specs.declared.Content.{Content}
use Rattle.model_settings.specs.Store.{Answer}
use Rattle.laws_outcomes.specs.Outcome.{once_1, once_2}

pub fresh-once : (words : List ℕ) {r1 r2 : Answer} {words1 words2 : List ℕ}
    → FreshPromise words r1 words1 → FreshPromise words r2 words2
    → (r1 ≡ r2) × (words1 ≡ words2)
fresh-once words p1 p2 = once_2 p1 p2

pub read-once : (words : List ℕ) (department : ℕ) {r1 r2 : Answer}
    → ReadPromise words department r1 → ReadPromise words department r2
    → r1 ≡ r2
read-once words department p1 p2 = once_1 p1 p2

pub read_version-once : (words : List ℕ) (department version : ℕ) {r1 r2 : Answer}
    → ReadVersionPromise words department version r1 → ReadVersionPromise words department version r2
    → r1 ≡ r2
read_version-once words department version p1 p2 = once_1 p1 p2

pub save-once : (words : List ℕ) (department from : ℕ) (content : Content) {r1 r2 : Answer} {words1 words2 : List ℕ}
    → SavePromise words department from content r1 words1 → SavePromise words department from content r2 words2
    → (r1 ≡ r2) × (words1 ≡ words2)
save-once words department from content p1 p2 = once_2 p1 p2

pub bring_back-once : (words : List ℕ) (department from version : ℕ) {r1 r2 : Answer} {words1 words2 : List ℕ}
    → BringBackPromise words department from version r1 words1 → BringBackPromise words department from version r2 words2
    → (r1 ≡ r2) × (words1 ≡ words2)
bring_back-once words department from version p1 p2 = once_2 p1 p2
