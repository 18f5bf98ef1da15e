-- What a person reads of a refusal.
use Rattle.std.specs.Prelude.{ℕ, cond, List, ◌++◌, eqb}
use Rattle.lists.specs.Bytes.{bytes}
use Rattle.model_texts.specs.Report.{tell}
use Rattle.settings_command.specs.declared.sentence.Unread.{Unread}
use Rattle.settings_command.specs.declared.sentence.Unread.TheVariants.{NotOpened, Cut, NotStore, Taken}

unfoldable pub meaning : ℕ → List ℕ
meaning n =
    cond (eqb n 3) (bytes "there is no such department; they are 0 to 31.")
    (cond (eqb n 4) (bytes "the chance is not from 0 to 1, or the horizon not 1 to 255, or the recipe above 65535.")
    (cond (eqb n 13)
    (bytes "FROM is not the current version: somebody saved since it was read, or the number is wrong.")
    (cond (eqb n 14) (bytes "that version is not kept: the current one and at most seven before it are.")
    (cond (eqb n 15)
    (bytes "the current version is 4294967295, the last that there is: it can be read and not changed.")
    (bytes "these are not a store's words: the file was damaged, or is something else.")))))

unfoldable pub refusal_text : ℕ → List ℕ
refusal_text n = tell "refused " n ++ (bytes " 64: " ++ (meaning n ++ bytes " Nothing was changed.\n"))

-- why there is no store to call, by its number
unfoldable pub unread_number : Unread → ℕ
unread_number NotOpened = 1
unread_number Cut = 2
unread_number NotStore = 3
unread_number Taken = 4

-- 1 and 2 its file could not be read, 4 a fresh one would replace a file; else it is no store's
unfoldable pub unread_text : ℕ → List ℕ
unread_text n =
    cond (eqb n 1) (bytes "FILE cannot be opened: it is not there, or may not be read. Nothing was changed.\n")
    (cond (eqb n 2) (bytes "FILE cannot be read to its end. Nothing was changed.\n")
    (cond (eqb n 4)
    (bytes "FILE is there already, or its place cannot be looked at; a fresh store takes a new name. Nothing was changed.\n")
    (refusal_text 18)))
