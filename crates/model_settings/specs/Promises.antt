-- REFERENCE 5.4. Document 02, W8: the promises of the settings store's calls.
use Rattle.std.specs.Prelude.{ℕ, List, ◌≡◌}
use Rattle.model_settings.specs.Words.{bring_words, fresh_answer, fresh_words, read_version_words, read_words, save_words, words_brought, words_saved}
use Rattle.model_settings.specs.declared.Content.{Content}
use Rattle.model_settings.specs.Store.{Answer}

abbrev pub FreshPromise : List ℕ → Answer → List ℕ → Type 0
FreshPromise words r words' =
    (r ≡ fresh_answer words)
    × (words' ≡ fresh_words words)

abbrev pub ReadPromise : List ℕ → ℕ → Answer → Type 0
ReadPromise words department r =
    r ≡ read_words words department

abbrev pub ReadVersionPromise : List ℕ → ℕ → ℕ → Answer → Type 0
ReadVersionPromise words department version r =
    r ≡ read_version_words words department version

abbrev pub SavePromise : List ℕ → ℕ → ℕ → Content → Answer → List ℕ → Type 0
SavePromise words department from content r words' =
    (r ≡ save_words words department from content)
    × (words' ≡ words_saved words department from content)

abbrev pub BringBackPromise : List ℕ → ℕ → ℕ → ℕ → Answer → List ℕ → Type 0
BringBackPromise words department from version r words' =
    (r ≡ bring_words words department from version)
    × (words' ≡ words_brought words department from version)
