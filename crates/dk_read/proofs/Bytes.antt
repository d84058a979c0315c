-- The tokens that a byte ends, one after the other.
use Rattle.std.proofs.Common.{◌≡◌, ℕ, refl, sym, ap, subst, ◌∙◌, List, Option, None, Some, Result, Ok, Err, OnOk}
use Rattle.lp_spec.specs.Modules.{Declaration}
use Rattle.lp_spec.specs.Tokens as tokens
use Rattle.lp_spec.specs.ReadingFaults as reading
use Rattle.lp_spec.specs.ModuleOrder.{IsModule}
use Rattle.dk_laws.specs.ReadingOrder.{IsState, IsOrdered, advance-IsOrdered}
use Rattle.dk_read.specs.declared.faults.Stop.{Stop}
use Rattle.dk_read.specs.declared.parser.Parser.{Parser}
use Rattle.dk_read.specs.declared.text.Text.{Text}
use Rattle.dk_read.specs.Names.{Named}
use Rattle.dk_read.specs.declared.terms.State.{State}
use Rattle.dk_read.specs.declared.terms.State.TheVariants as state
use Rattle.dk_read.specs.States.{before, state_in, state_of, refused_by, OnRefusal, Becomes, Breaks, IsReady, IsReading, Grows}
use Rattle.dk_read.proofs.Grown.{known-Grows, state-Grows}
use Rattle.dk_read.specs.Texts.{Takes, Closes}

-- a token leaves the reading in order
pub next_ordered : (old new : Parser) (p : ℕ) (token : tokens.Token) → IsModule (before old) → IsState (before old) (state_of old)
    → reading.advance (before old) (state_of old) p token ≡ reading.Goes (before new) (state_of new) → IsState (before new) (state_of new)
next_ordered old new p token o h e = subst IsOrdered e (advance-IsOrdered (before old) o (state_of old) p token h)

pub reading_ready : (old new : Parser) (p : ℕ) (token : tokens.Token) (r : Result (Unit {0}) Stop) → IsModule (before old) → IsState (before old) (state_of old)
    → Becomes (reading.advance (before old) (state_of old) p token) new r → OnOk r (IsReady new) → OnOk r (IsReading new)
reading_ready old new p token (Ok u) o h e k = record { ready = k; ordered = next_ordered old new p token o h e }
reading_ready old new p token (Err f) o h e k = tt

-- a reading goes on over names that have grown
pub reading_grows : (old new : Parser) → Grows old new → IsReading old → IsReading new
reading_grows old new g r = record {
  ready = record { sound = g.sound r.ready.sound; known = known-Grows old new g r.ready.known };
  ordered = subst (λ s. IsState (before new) s) (sym (state-Grows old new g r.ready.known)) (subst (λ m. IsState m (state_of old)) (sym g.declared) r.ordered);
}

pub advance_grows : (old new : Parser) (p : ℕ) (one two : tokens.Token) → Grows old new → IsReading old → one ≡ two
    → reading.advance (before old) (state_of old) p one ≡ reading.advance (before new) (state_of new) p two
advance_grows old new p one two g r e =
    ap (λ m. reading.advance m (state_of old) p one) (sym g.declared)
    ∙ ap (λ s. reading.advance (before new) s p one) (sym (state-Grows old new g r.ready.known))
    ∙ ap (reading.advance (before new) (state_of new) p) e

pub after_then : (p q : ℕ) (m n : List Declaration) (s u : reading.State) (token : tokens.Token) (taken : tokens.Taken) → reading.advance m s q token
    ≡ reading.Goes n u → reading.after_byte p m s (tokens.after (tokens.at q token) taken) ≡ reading.after_byte p n u taken
after_then p q m n s u token (tokens.goes ts pending) e = ap (λ o. reading.progress p pending (reading.advance_all o ts)) e
after_then p q m n s u token (tokens.sticks ts r) e = ap (λ o. reading.Refused (reading.broken (reading.advance_all o ts) r)) e

pub after_stops : (p q : ℕ) (m : List Declaration) (s : reading.State) (token : tokens.Token) (taken : tokens.Taken) (r : reading.Refusal)
    → reading.advance m s q token ≡ reading.Stops r → reading.after_byte p m s (tokens.after (tokens.at q token) taken) ≡ reading.Refused r
after_stops p q m s token (tokens.goes ts pending) r e = ap (λ o. reading.progress p pending (reading.advance_all o ts)) e
after_stops p q m s token (tokens.sticks ts x) r e = ap (λ o. reading.Refused (reading.broken (reading.advance_all o ts) x)) e

-- what holds of a refusal for one reason holds for another that follows
pub OnRefusal-map : {P Q : reading.Refusal → Type 0} → (o : Option reading.Refusal) → ((r : reading.Refusal) → P r → Q r) → OnRefusal o P → OnRefusal o Q
OnRefusal-map None f h = tt
OnRefusal-map (Some r) f h = f r h

-- a token that stops the reading
pub token_stops : (p q : ℕ) (m : List Declaration) (s : reading.State) (token : tokens.Token) (taken : tokens.Taken) (parser : Parser) (t : Text) (e : Stop)
    → t.parser.names ≡ parser.names → Becomes (reading.advance m s q token) parser (Err e)
    → Takes (reading.after_byte p m s (tokens.after (tokens.at q token) taken)) t (Err e)
token_stops p q m s token taken parser t e same h =
    OnRefusal-map (refused_by t.parser.names e) (λ r k. after_stops p q m s token taken r k)
    (subst (λ (ns : List Named). OnRefusal (refused_by ns e) (λ r. reading.advance m s q token ≡ reading.Stops r)) (sym same) h)

-- what is taken under another name
pub takes_as : (o n : reading.Progress) (t : Text) (r : Result (Unit {0}) Stop) → o ≡ n → Takes n t r → Takes o t r
takes_as o n t r e h = subst (λ w. Takes w t r) (sym e) h

-- a byte behind a token that goes on
pub token_goes : (p q : ℕ) (old new : Parser) (token : tokens.Token) (taken : tokens.Taken) (t : Text) (r : Result (Unit {0}) Stop)
    → reading.advance (before old) (state_of old) q token ≡ reading.Goes (before new) (state_of new)
    → Takes (reading.after_byte p (before new) (state_of new) taken) t r
    → Takes (reading.after_byte p (before old) (state_of old) (tokens.after (tokens.at q token) taken)) t r
token_goes p q old new token taken t r e h = takes_as _ _ t r (after_then p q (before old) (before new) (state_of old) (state_of new) token taken e) h

-- what ends under another name
pub closes_as : (a b : reading.Answer) (t : Text) (r : Result (Unit {0}) Stop) → a ≡ b → Closes b t r → Closes a t r
closes_as a b t r e h = subst (λ w. Closes w t r) (sym e) h

-- a text that ends anywhere but between two declarations is broken there
broken_there : (p : Parser) (s : State) (place : ℕ) → (s ≡ state.Between → ⊥) → reading.answers (reading.Goes (before p) (state_in p s)) (tokens.ended place)
    ≡ reading.refused (reading.broken (reading.Goes (before p) (state_in p s)) place)
broken_there p state.Between place h = absurd (h refl)
broken_there p (state.AfterKeyword form) place h = refl
broken_there p (state.AfterName form n) place h = refl
broken_there p state.AtTerm place h = refl
broken_there p (state.AfterFirst q n) place h = refl
broken_there p (state.InApplication f) place h = refl

pub ends_broken : (p : Parser) (t : Text) (place : ℕ) (f : Stop) → (p.state ≡ state.Between → ⊥)
    → Breaks (reading.broken (reading.Goes (before p) (state_of p)) place) t.parser.names f
    → Closes (reading.answers (reading.Goes (before p) (state_of p)) (tokens.ended place)) t (Err f)
ends_broken p t place f h k = OnRefusal-map (refused_by t.parser.names f) (λ r e. broken_there p p.state place h ∙ ap reading.refused e) k
