-- What a row raised by another is, told entry by entry.
use Rattle.std.proofs.Common.{◌≡◌, ◌∙◌, refl, sym, ℕ, ◌<◌, List, length, get_or, max, arith}
use Rattle.std.proofs.lemmas.Grind.{same_number_lists}
use Rattle.meaning.specs.Rows.{raise}
use Rattle.meaning.proofs.RowLaws.{length-raise}
use Rattle.meaning.proofs.AccountLaws.{raise_entry}

-- a row that has the greater of both entries at each place
pub raise_is :
    (r b w : List ℕ) → length b ≡ length r → length w ≡ length r → ((k : ℕ) → k < length r → get_or w k 0 ≡ max (get_or r k 0) (get_or b k 0)) →
    w ≡ raise r b
raise_is r b w same long each =
    let l = length-raise r b (length r) refl same in
    same_number_lists w (raise r b) (omega arith) (λ k h. each k (omega arith) ∙ sym (raise_entry r b k (sym same)))
