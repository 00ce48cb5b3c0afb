-- What C is told: a reply's values as far as the call has words for them, and what it finds in the words or bytes that it lent.
use Rattle.std.specs.Prelude.{◌≡◌, List, ℕ, length, take}
use Rattle.meaning.specs.declared.Action.{Action}
use Rattle.meaning.specs.declared.Action.TheVariants.{Deliver}
use Rattle.meaning.specs.Refusals.{fault_values}
use Rattle.meaning.specs.Steps.{reply, after, reply_values, lent_reply, lent_after, list_after}
use Rattle.meaning.specs.Lines.{line_reply, line_after, answer_values, lines_reply, lines_after, progress_values}
use Rattle.meaning.specs.Frames.{words_fault, words_after, framed_values, frame_reply, frame_after, start_reply, start_after}

-- of a step: the number, then the counts; and the table at exit
abbrev pub Stepped : List ℕ → Action → List ℕ → List ℕ → Type 0
Stepped t x told u = (told ≡ take (length told) (reply_values (reply t x))) × (u ≡ after t x)

-- of a delivery into a lent list: the number and the count; and the table and the list at exit
abbrev pub DeliveryTold : List ℕ → List ℕ → ℕ → List ℕ → List ℕ → List ℕ → Type 0
DeliveryTold t list p told u out =
    (told ≡ take (length told) (reply_values (lent_reply t (length list) (Deliver p)))) × (u ≡ lent_after t (length list) (Deliver p)) ×
    (out ≡ list_after t list p)

-- of a line: the number, the counts and the place in the line; and the table at exit
abbrev pub LineTold : List ℕ → List ℕ → List ℕ → List ℕ → Type 0
LineTold t l told u = (told ≡ answer_values (line_reply t l)) × (u ≡ line_after t l)

-- of many lines: the number, the steps, those refused, where the reading stopped and the place in the refused line; and the table at exit
abbrev pub LinesTold : List ℕ → List ℕ → List ℕ → List ℕ → Type 0
LinesTold t s told u = (told ≡ progress_values (lines_reply t s)) × (u ≡ lines_after t s)

-- of a step's frame: the number and the length; and the bytes at exit
abbrev pub Framed : List ℕ → Action → List ℕ → List ℕ → Type 0
Framed out x told bytes = (told ≡ framed_values (frame_reply out x)) × (bytes ≡ frame_after out x)

-- of a start's frame, likewise
abbrev pub Started : List ℕ → ℕ → List ℕ → List ℕ → Type 0
Started out n told bytes = (told ≡ framed_values (start_reply out n)) × (bytes ≡ start_after out n)

-- of a line read into lent words: the number of its refusal and the place in it; and the words at exit
abbrev pub LineRead : List ℕ → List ℕ → List ℕ → List ℕ → Type 0
LineRead l words told words' = (told ≡ fault_values (words_fault l words)) × (words' ≡ words_after l words)
