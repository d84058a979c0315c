-- Worked examples: the readings of small texts, and their refusals.
use Rattle.std.proofs.Common.{◌≡◌, ℕ, zero, suc, ◌==◌, if◌then◌else◌, ◌+◌, ◌-◌, ◌<◌, refl, ap, ◌∙◌, arith, Bool, true, List, [], ◌∷◌, ◌++◌, length, take, Some, codes}
use Rattle.std.proofs.lemmas.Grind.{common_steps}
use Rattle.lp_spec.specs.declared.form.Form.TheVariants.{Def}
use Rattle.lp_spec.specs.Trees.{Var, Sym, Pi}
use Rattle.lp_spec.specs.Modules.{symbol, types, bools, arr_of, term_of}
use Rattle.lp_spec.specs.Text.{prelude}
use Rattle.lp_spec.specs.Tokens.{Nothing}
use Rattle.lp_spec.specs.ReadingFaults.{Between, Opening, Inside, Refused, opened, read_byte, read_bytes, read_end, Answer, reads, refused, refusal, NoPrelude, BadText, UnknownName, NameTwice, DkTooLong, answer, answer_within}

-- the text after the signature's, whose bytes are numbered from 1000
abbrev after_prelude : List ℕ → Answer
after_prelude text = read_end (read_bytes (Inside 1000 Nothing [] Between) text)

-- the signature's text alone reads as the module of no declaration
nothing_declared : answer prelude ≡ reads []
nothing_declared = refl

-- a comment ends at the next `;)`
commented : after_prelude (codes "(; a (; b ;) def q : type := bool.") ≡ reads (record { name = codes "q"; form = Def; ty = types; body = Some bools } ∷ [])
commented = refl

-- a declaration that doesn't end
unended : after_prelude (codes "def q : type := bool") ≡ refused (refusal 1020 BadText)
unended = refl

-- a comment that doesn't end, also where its bytes are `(;)`
open_comment : after_prelude (codes " (; a") ≡ refused (refusal 1001 BadText)
open_comment = refl

open_comment_closed : after_prelude (codes "(;)") ≡ refused (refusal 1000 BadText)
open_comment_closed = refl

-- a declaration can't use its own name
own_name : after_prelude (codes "thm e : proof e := e.") ≡ refused (refusal 1014 (UnknownName (codes "e")))
own_name = refl

-- a name of the signature
name_again : after_prelude (codes "bool : type.") ≡ refused (refusal 1000 (NameTwice (codes "bool")))
name_again = refl

-- an identifier before the end of the text, an open comment or a byte that begins no token
at_the_end : after_prelude (codes "a : b") ≡ refused (refusal 1004 (UnknownName (codes "b")))
at_the_end = refl

before_a_comment : after_prelude (codes "a : b (;") ≡ refused (refusal 1004 (UnknownName (codes "b")))
before_a_comment = refl

before_no_token : after_prelude (codes "a : b ?") ≡ refused (refusal 1004 (UnknownName (codes "b")))
before_no_token = refl

-- tokens that can't follow: a `=>` without a binder, a binder in a domain, a `)` without its `(`
no_binder : after_prelude (codes "a : type => type.") ≡ refused (refusal 1009 BadText)
no_binder = refl

binder_in_domain : after_prelude (codes "a : x : type : type -> type.") ≡ refused (refusal 1013 BadText)
binder_in_domain = refl

no_parenthesis : after_prelude (codes "a : type) -> type.") ≡ refused (refusal 1008 BadText)
no_parenthesis = refl

-- the innermost binder of a name is meant, and a binder hides a symbol
innermost : after_prelude (codes "a : x : type -> x : term x -> term x.") ≡ reads (symbol (codes "a") (Pi types (Pi (term_of (Var 0)) (term_of (Var 0)))) ∷ [])
innermost = refl

hides : after_prelude (codes "a:bool:type->term(arr bool ind).") ≡ reads (symbol (codes "a") (Pi types (term_of (arr_of (Var 0) (Sym 2)))) ∷ [])
hides = refl

-- an empty text, and the signature's text without its last byte
-- each cut of the signature's text
byte_is : (b : ℕ) → (b == b) ≡ true
byte_is b = grind (arith, common_steps)

cut_opening : (p n b : ℕ) (wanted bytes : List ℕ) → read_bytes (read_byte (Opening p (b ∷ wanted)) b) bytes ≡ read_bytes (opened (p + 1) wanted) bytes
cut_opening p n b wanted bytes = ap (λ (c : Bool). read_bytes (if c then opened (p + 1) wanted else Refused (refusal p NoPrelude)) bytes) (byte_is b)

cut_opened : (p n : ℕ) (wanted : List ℕ) → n < length wanted → read_end (read_bytes (opened p wanted) (take n wanted)) ≡ refused (refusal (p + n) NoPrelude)
cut_opened p n [] h = absurd (omega arith)
cut_opened p zero (b ∷ wanted) h = ap (λ q. refused (refusal q NoPrelude)) (omega arith)
cut_opened p (suc n) (b ∷ wanted) h =
    ap read_end (cut_opening p n b wanted (take n wanted))
    ∙ cut_opened (p + 1) n wanted (omega (arith, h))
    ∙ ap (λ q. refused (refusal q NoPrelude)) (omega arith)

each_cut : (n : ℕ) → n < length prelude → answer (take n prelude) ≡ refused (refusal n NoPrelude)
each_cut n h = cut_opened 0 n prelude h ∙ ap (λ q. refused (refusal q NoPrelude)) (omega arith)

empty_text : answer [] ≡ refused (refusal 0 NoPrelude)
empty_text = refl

one_byte_short : answer (take (length prelude - 1) prelude) ≡ refused (refusal (length prelude - 1) NoPrelude)
one_byte_short = refl

-- under a limit a fault within it comes first, and the limit before every later fault
early_fault : answer_within (Some (length prelude + 3)) (prelude ++ codes "? :") ≡ refused (refusal (length prelude) BadText)
early_fault = refl

late_fault : answer_within (Some (length prelude + 5)) (prelude ++ codes "a : b ?") ≡ refused (refusal (length prelude + 5) DkTooLong)
late_fault = refl
