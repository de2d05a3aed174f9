-- What a message comes to, in any wrapping: an order is for line 1 to 4 and its function is that of its row's form; a reply at once is an exception or
-- unit 5's; a silence is one of the wrapping's, 13 or 14.
-- Assumes nothing.
use Rattle.std.specs.Prelude.{Option, Some, None}
use Prim.Native.Nat.{ℕ}
use mathlib.Core.Path.{◌≡◌, refl, subst, subst⁻¹}
use mathlib.Core.Logic.{◌⊎◌, inl, inr}
use mathlib.Core.Bool.{Bool, true, false, cond}
use mathlib.Core.List.{List, [], ◌∷◌, ◌++◌}
use lib.Dec.{eqb}
use Rattle.refusals.specs.declared.Refusal.{Refusal}
use Rattle.refusals.specs.declared.Refusal.TheVariants.{NoSuchUnit, NoSuchFunction}
use Rattle.word.specs.Checks.{Check, judged, Fails, here, later, Passes}
use Rattle.word.proofs.Checks.{refuses, goes_on, either}
use Rattle.modbus.specs.declared.Order.{Order}
use Rattle.modbus.specs.declared.QuestionType.{QuestionType}
use Rattle.modbus.specs.declared.Reading.{Reading}
use Rattle.modbus.specs.declared.Reading.TheVariants.{Silent, AtOnce, Accepted}
use Rattle.modbus.specs.declared.Reply.{Reply}
use Rattle.modbus.specs.declared.Reply.TheVariants.{Value}
use Rattle.modbus.specs.declared.rows.Row.{Row}
use Rattle.modbus.specs.declared.shape.Fields.{Fields}
use Rattle.modbus.specs.Shape.{unit_of, function_of, request_fields}
use Rattle.modbus.specs.Mapping.{
  mapping_rows,
  first_of,
  at_once,
  type_from,
  typed_as,
  ask_of,
  found_as,
  offset_checks,
  mapped_of,
  own_checks,
  own_of,
  silent_checks,
  form_checks,
  body_said,
  form_read,
  body_read,
}
use Rattle.modbus.proofs.Orders.{on_line}
use Rattle.modbus.specs.Wrapping.{Wrapping, reads, silences_of}
use Rattle.modbus.specs.Lawful.{Coded, Right, GivenAtOnce, exception, own, Among, Lawful}
use Rattle.modbus.proofs.Messages.Forms.{FoundCoded, row_coded}
pub mod Forms

-- what may be said of a reading whose silences are among these
abbrev Good : List Refusal → Reading → Type 0
Good rs (Silent r) = Among rs r
Good rs (AtOnce r) = GivenAtOnce r
Good rs (Accepted o) = Coded o.function o.form

module _ (rs : List Refusal) where
  one_of : (b : Bool) (x y : Reading) → Good rs x → Good rs y → Good rs (cond b x y)
  one_of true x y p q = p
  one_of false x y p q = q

  by : (cs : List (Check ℕ)) (refusal : ℕ → Reading) (next : Reading) → ((n : ℕ) → Good rs (refusal n)) → Good rs next → Good rs (judged cs refusal next)
  by [] refusal next p q = q
  by (c ∷ cs) refusal next p q = one_of c.holds _ _ (by cs refusal next p q) (p c.number)

  good_typed : (u : ℕ) (a : Fields) (r : Row) (t : Option QuestionType) → Coded a.function r.form → Good rs (typed_as u a r t)
  good_typed u a r (Some t) c = c
  good_typed u a r None c = exception u a.function 0x03

  good_found : (u : ℕ) (a : Fields) (r : Option Row) → FoundCoded a.function r → Good rs (found_as u a r)
  unfolding ask_of
  good_found u a (Some r) c = good_typed u a r (type_from r.asks a.message) c
  good_found u a None c = exception u a.function 0x02

  good_mapped : (u : ℕ) (a : Fields) → Good rs (mapped_of u a)
  unfolding mapped_of
  good_mapped u a = by (offset_checks a) (at_once u a.function) (found_as u a (first_of mapping_rows a)) (exception u a.function)
      (good_found u a (first_of mapping_rows a) (row_coded a))

  good_own : (a : Fields) → Good rs (own_of a)
  unfolding own_of
  good_own a = by (own_checks a) (at_once 5 a.function) (AtOnce (Value 5 a.function 0x0100)) (exception 5 a.function) (own a.function)

  good_form : (b : List ℕ) → Good rs (form_read b)
  good_form b =
      let a = request_fields (function_of b) b in
      by (form_checks b) (at_once (unit_of b) (function_of b)) (body_said b) (exception (unit_of b) (function_of b))
      (one_of (eqb (unit_of b) 5) (own_of a) (mapped_of (unit_of b) a) (good_own a) (good_mapped (unit_of b) a))

  -- where a check fails, its refusal is one of them
  silenced : (cs : List (Check Refusal)) (next : Reading) → ((r : Refusal) → Fails cs r → Among rs r) → Good rs next → Good rs (judged cs Silent next)
  silenced cs next p q = go (either cs)
    where
      go : ((r : Refusal) × Fails cs r) ⊎ Passes cs → Good rs (judged cs Silent next)
      go (inl f) = subst⁻¹ (Good rs) (refuses Silent next f.1) (p f.0 f.1)
      go (inr passed) = subst⁻¹ (Good rs) (goes_on Silent next passed) q

-- what is in either list is in both
sooner : (xs ys : List Refusal) (r : Refusal) → Among xs r → Among (xs ++ ys) r
sooner [] ys r p = elim p [ ]
sooner (x ∷ xs) ys r (inl e) = inl e
sooner (x ∷ xs) ys r (inr p) = inr (sooner xs ys r p)

beyond : (xs ys : List Refusal) (r : Refusal) → Among ys r → Among (xs ++ ys) r
beyond [] ys r p = p
beyond (x ∷ xs) ys r p = inr (beyond xs ys r p)

of_body : (b : List ℕ) (r : Refusal) → Fails (silent_checks b) r → Among (NoSuchUnit ∷ NoSuchFunction ∷ []) r
of_body b r (here e) = inl refl
of_body b r (later e (here f)) = inl refl
of_body b r (later e (later f (here g))) = inr (inl refl)
of_body b r (later e (later f (later g x))) = elim x [ ]

module _ {W : Wrapping} (law : Lawful W) where
  good : (s : List ℕ) → Good (silences_of W) (reads W s)
  unfolding reads body_read
  good s =
      silenced (silences_of W) (W.checks s) (body_read (W.body s)) (λ r f. sooner W.silences (NoSuchUnit ∷ NoSuchFunction ∷ []) r (law.listed s r f))
      (silenced (silences_of W) (silent_checks (W.body s)) (form_read (W.body s))
      (λ r f. beyond W.silences (NoSuchUnit ∷ NoSuchFunction ∷ []) r (of_body (W.body s) r f)) (good_form (silences_of W) (W.body s)))

  pub right : (s : List ℕ) (o : Order) → reads W s ≡ Accepted o → Right o
  right s o e = let l = on_line W s o e in record { from = l.1.0; upto = l.1.1; coded = subst (Good (silences_of W)) e (good s) }

  pub said_at_once : (s : List ℕ) (r : Reply) → reads W s ≡ AtOnce r → GivenAtOnce r
  said_at_once s r e = subst (Good (silences_of W)) e (good s)

  pub silent : (s : List ℕ) (r : Refusal) → reads W s ≡ Silent r → Among (silences_of W) r
  silent s r e = subst (Good (silences_of W)) e (good s)
