-- An answer's line is printed whole, and the lines don't depend on how the samples are cut into blocks.
-- Assumes nothing.
use Rattle.std.proofs.Common.{◌≡◌, ℕ, ◌+◌, ◌^◌, ◌<◌, ◌≤◌, List, [], ◌∷◌, ◌++◌, length, get_or, drop, sym, refl, ap, ◌∙◌, ap₂, append_assoc, arith, length-append}
use Rattle.refusals.specs.declared.Refusal.{Refusal}
use Rattle.refusals.specs.Numbers.{number_of}
use Rattle.refusals.proofs.Names.{to_19}
use Rattle.word.specs.declared.Frame.{Frame as Word}
use Rattle.text.specs.Text.{empty_text, puts, says}
use Rattle.text.proofs.Puts.{decimal_short, hex_length, says_puts}
use Rattle.samples.specs.declared.Answer.TheVariants.{Frame, Refused}
use Rattle.samples.specs.Reader.{Reader, Step}
use Rattle.samples.specs.Reading.{step_of}
use Rattle.samples.specs.Run.{answers_of, after_of}
use Rattle.print.proofs.Added.{left_from}
use Rattle.otdecode.specs.Lines.{shown_of, shown_if, next_place, shown_in, last_place}

-- the text of a frame's line and of a refusal's says just that line
pub frame_shown : (index : ℕ) (f : Word) → index < 2 ^ 64 → f.shortest < 2 ^ 8 → f.longest < 2 ^ 8 → says (puts empty_text (shown_of index (Frame f))) ≡ shown_of index (Frame f)
unfolding shown_of
frame_shown index f h s g =
    let i = decimal_short 19 index (omega arith) in
    let w = hex_length 8 f.word in
    let a = decimal_short 2 f.shortest (omega arith) in
    let b = decimal_short 2 f.longest (omega arith) in
    let short : length (shown_of index (Frame f)) ≤ 120 = simp length-append (omega arith) in
    says_puts (shown_of index (Frame f)) short

pub refused_shown : (index : ℕ) (r : Refusal) → index < 2 ^ 64 → says (puts empty_text (shown_of index (Refused r))) ≡ shown_of index (Refused r)
unfolding shown_of
refused_shown index r h =
    let i = decimal_short 19 index (omega arith) in
    let n = to_19 r in
    let w = decimal_short 2 (number_of r) (omega arith) in
    let short : length (shown_of index (Refused r)) ≤ 120 = simp length-append (omega arith) in
    says_puts (shown_of index (Refused r)) short

-- samples that come in two blocks give the same lines
pub cut : (index : ℕ) (r : Reader) (s t : List ℕ) →
    shown_in index (answers_of r (s ++ t)) ≡ shown_in index (answers_of r s) ++ shown_in (last_place index s) (answers_of (after_of r s) t)
unfolding shown_in answers_of after_of last_place
cut index r [] t = refl
cut index r (x ∷ s) t =
    ap (λ (y : List (List ℕ)). shown_if index (step_of r x).answer ++ y) (cut (next_place index) (step_of r x).reader s t)
    ∙ sym (append_assoc (shown_if index (step_of r x).answer) _ _)

-- a block sample by sample, for `take`
module _ (s : List ℕ) (i : ℕ) (h : i < length s) where
  pub place_more : (n m : ℕ) → m ≡ next_place n → last_place m (drop (i + 1) s) ≡ last_place n (drop i s)
  unfolding last_place
  place_more n m e = ap (λ (x : ℕ). last_place x (drop (i + 1) s)) e ∙ sym (ap (last_place n) (left_from s i h))

  module _ (r : Reader) (x : Step) (ex : x ≡ step_of r (get_or s i 0)) where
    pub reader_more : after_of x.reader (drop (i + 1) s) ≡ after_of r (drop i s)
    unfolding after_of
    reader_more = ap (λ (y : Step). after_of y.reader (drop (i + 1) s)) ex ∙ sym (ap (after_of r) (left_from s i h))

    pub rest_more : (n m : ℕ) → m ≡ next_place n →
        shown_if n x.answer ++ shown_in m (answers_of x.reader (drop (i + 1) s)) ≡ shown_in n (answers_of r (drop i s))
    unfolding shown_in answers_of
    rest_more n m em =
        ap₂ (λ (y : Step) (k : ℕ). shown_if n y.answer ++ shown_in k (answers_of y.reader (drop (i + 1) s))) ex em
        ∙ sym (ap (λ (y : List ℕ). shown_in n (answers_of r y)) (left_from s i h))
