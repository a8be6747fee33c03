-- The writers of a reader's current record (01, module 5, refusals 11, 7, 10, 9 in this order): those of the filled bytes of the window,
-- the record's start and its recorded ends. Assumes nothing.
use Rattle.std.specs.Prelude.{ℕ, List, ◌≡◌, Result}
use Rattle.reader.specs.declared.state.Reader.{Reader}
use Rattle.view.specs.Current.{of_current}
use Rattle.rewrite.specs.Rewrite.{left, refused, written_in, wrapped_in, unchanged_in}
use Rattle.rewrite.specs.declared.error.RewriteError.{RewriteError}

-- the promises
abbrev pub Write : Reader → (w ends out : List ℕ) → Result ℕ RewriteError → (exit : List ℕ) → Type 0
Write r w ends out a exit =
    left a exit ≡ of_current r w ends (λ bytes start es. written_in bytes start es out) (λ number. refused number out)

abbrev pub WriteWrap : Reader → (w ends : List ℕ) (wrap : ℕ) (out : List ℕ) → Result ℕ RewriteError → (exit : List ℕ) → Type 0
WriteWrap r w ends wrap out a exit =
    left a exit ≡ of_current r w ends (λ bytes start es. wrapped_in bytes start es wrap out) (λ number. refused number out)

abbrev pub WriteUnchanged : Reader → (w ends out : List ℕ) → Result ℕ RewriteError → (exit : List ℕ) → Type 0
WriteUnchanged r w ends out a exit =
    left a exit ≡ of_current r w ends (λ bytes start es. unchanged_in bytes start es out) (λ number. refused number out)
