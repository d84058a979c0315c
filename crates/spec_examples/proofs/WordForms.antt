-- Which words are a form, and the lines of a check.
use Rattle.std.proofs.Common.{◌≡◌, [], ◌∷◌, true, false, refl}
use Rattle.std.specs.Prelude.{None, Some, codes}
use Rattle.std.specs.Fmt.{digits}
use Rattle.lp_spec.specs.Modules.{types, bools, symbol}
use Rattle.lp_spec.specs.declared.form.Form.TheVariants.{Def}
use Rattle.lp_spec.specs.ReadingFaults.{NoPrelude, UnknownName}
use Rattle.bridge_spec.specs.Forms.{verify, translate, check, show, decode, article, form_of}
use Rattle.bridge_spec.specs.Texts.{checked_of, accepted_line, dk_refusal_line, ill_typed_line, over_budget_line, not_sequent_line, unwritable_line}

-- a file alone, and with a budget before it or behind it
translated : form_of (codes "bridge" ∷ codes "translate" ∷ codes "a" ∷ []) ≡ Some (translate false (codes "a" ∷ []))
translated = refl

verified : form_of (codes "bridge" ∷ codes "verify" ∷ codes "a" ∷ codes "b" ∷ codes "a" ∷ [])
    ≡ Some (verify false false (codes "a" ∷ codes "b" ∷ codes "a" ∷ []))
verified = refl

checked : form_of (codes "bridge" ∷ codes "check" ∷ codes "a" ∷ []) ≡ Some (check false (codes "a") 100000000)
checked = refl

checked_before : form_of (codes "bridge" ∷ codes "check" ∷ codes "--budget" ∷ codes "4" ∷ codes "a" ∷ []) ≡ Some (check false (codes "a") 4)
checked_before = refl

checked_behind : form_of (codes "bridge" ∷ codes "check" ∷ codes "a" ∷ codes "--budget=4" ∷ []) ≡ Some (check false (codes "a") 4)
checked_behind = refl

-- a fast check, wherever `--fast` stands behind the word of its form
verified_fast : form_of (codes "bridge" ∷ codes "verify" ∷ codes "a" ∷ codes "--fast" ∷ codes "b" ∷ []) ≡ Some (verify false true (codes "a" ∷ codes "b" ∷ []))
verified_fast = refl

checked_fast : form_of (codes "bridge" ∷ codes "check" ∷ codes "--fast" ∷ codes "--budget" ∷ codes "4" ∷ codes "a" ∷ []) ≡ Some (check true (codes "a") 4)
checked_fast = refl

-- not before it, not twice, not in place of a budget's number, and not for any other form
fast_first : form_of (codes "bridge" ∷ codes "--fast" ∷ codes "check" ∷ codes "a" ∷ []) ≡ None
fast_first = refl

fast_twice : form_of (codes "bridge" ∷ codes "check" ∷ codes "--fast" ∷ codes "a" ∷ codes "--fast" ∷ []) ≡ None
fast_twice = refl

fast_number : form_of (codes "bridge" ∷ codes "check" ∷ codes "a" ∷ codes "--budget" ∷ codes "--fast" ∷ codes "4" ∷ []) ≡ None
fast_number = refl

fast_alone : form_of (codes "bridge" ∷ codes "verify" ∷ codes "--fast" ∷ []) ≡ None
fast_alone = refl

fast_translation : form_of (codes "bridge" ∷ codes "translate" ∷ codes "--fast" ∷ codes "a" ∷ []) ≡ None
fast_translation = refl

-- shared abbreviations, wherever `--share` stands behind the word of its form
translated_shared : form_of (codes "bridge" ∷ codes "translate" ∷ codes "a" ∷ codes "--share" ∷ []) ≡ Some (translate true (codes "a" ∷ []))
translated_shared = refl

verified_shared : form_of (codes "bridge" ∷ codes "verify" ∷ codes "--fast" ∷ codes "a" ∷ codes "--share" ∷ codes "b" ∷ [])
    ≡ Some (verify true true (codes "a" ∷ codes "b" ∷ []))
verified_shared = refl

-- not before it, not twice, not alone, and not for any other form
shared_first : form_of (codes "bridge" ∷ codes "--share" ∷ codes "translate" ∷ codes "a" ∷ []) ≡ None
shared_first = refl

shared_twice : form_of (codes "bridge" ∷ codes "verify" ∷ codes "--share" ∷ codes "a" ∷ codes "--share" ∷ []) ≡ None
shared_twice = refl

shared_alone : form_of (codes "bridge" ∷ codes "translate" ∷ codes "--share" ∷ []) ≡ None
shared_alone = refl

shared_check : form_of (codes "bridge" ∷ codes "check" ∷ codes "--share" ∷ codes "a" ∷ []) ≡ None
shared_check = refl

greatest : form_of (codes "bridge" ∷ codes "check" ∷ codes "a" ∷ codes "--budget" ∷ codes "18446744073709551615" ∷ [])
    ≡ Some (check false (codes "a") 18446744073709551615)
greatest = refl

shown : form_of (codes "bridge" ∷ codes "show" ∷ codes "a" ∷ []) ≡ Some (show (codes "a" ∷ []))
shown = refl

decoded : form_of (codes "bridge" ∷ codes "decode" ∷ codes "a" ∷ []) ≡ Some (decode (codes "a"))
decoded = refl

-- an article of what files export: one file or more, of which one may be named twice
article_of_one : form_of (codes "bridge" ∷ codes "article" ∷ codes "a" ∷ []) ≡ Some (article (codes "a" ∷ []))
article_of_one = refl

article_of_three : form_of (codes "bridge" ∷ codes "article" ∷ codes "a" ∷ codes "b" ∷ codes "a" ∷ []) ≡ Some (article (codes "a" ∷ codes "b" ∷ codes "a" ∷ []))
article_of_three = refl

-- not without a file, and with no option, whether before its file or behind it
article_of_nothing : form_of (codes "bridge" ∷ codes "article" ∷ []) ≡ None
article_of_nothing = refl

article_shared : form_of (codes "bridge" ∷ codes "article" ∷ codes "--share" ∷ codes "a" ∷ []) ≡ None
article_shared = refl

article_fast : form_of (codes "bridge" ∷ codes "article" ∷ codes "a" ∷ codes "--fast" ∷ []) ≡ None
article_fast = refl

article_budget : form_of (codes "bridge" ∷ codes "article" ∷ codes "a" ∷ codes "--budget" ∷ codes "4" ∷ []) ≡ None
article_budget = refl

article_budget_behind : form_of (codes "bridge" ∷ codes "article" ∷ codes "a" ∷ codes "--budget=4" ∷ []) ≡ None
article_budget_behind = refl

-- words that are no form: a budget that is too great, nothing, zero, with a zero before it or with a sign; two files of a check; no file
too_great : form_of (codes "bridge" ∷ codes "check" ∷ codes "a" ∷ codes "--budget" ∷ codes "18446744073709551616" ∷ []) ≡ None
too_great = refl

no_number : form_of (codes "bridge" ∷ codes "check" ∷ codes "a" ∷ codes "--budget=" ∷ []) ≡ None
no_number = refl

zero : form_of (codes "bridge" ∷ codes "check" ∷ codes "a" ∷ codes "--budget" ∷ codes "0" ∷ []) ≡ None
zero = refl

leading_zero : form_of (codes "bridge" ∷ codes "check" ∷ codes "a" ∷ codes "--budget=01" ∷ []) ≡ None
leading_zero = refl

signed : form_of (codes "bridge" ∷ codes "check" ∷ codes "a" ∷ codes "--budget=+1" ∷ []) ≡ None
signed = refl

two_files : form_of (codes "bridge" ∷ codes "check" ∷ codes "a" ∷ codes "b" ∷ []) ≡ None
two_files = refl

two_shown : form_of (codes "bridge" ∷ codes "show" ∷ codes "a" ∷ codes "b" ∷ []) ≡ Some (show (codes "a" ∷ codes "b" ∷ []))
two_shown = refl

no_files : form_of (codes "bridge" ∷ codes "show" ∷ []) ≡ None
no_files = refl

no_file : form_of (codes "bridge" ∷ codes "check" ∷ codes "--" ∷ codes "a" ∷ []) ≡ None
no_file = refl

-- a symbol has no body, and a definition has one
counted : accepted_line (checked_of (symbol (codes "x") types ∷ record { name = codes "y"; form = Def; ty = types; body = Some bools } ∷ []))
    ≡ codes "accepted 2, unproved 1\n"
unfolding digits
counted = refl

refused : dk_refusal_line 0 NoPrelude ≡ codes "byte 0: NoPrelude\n"
unfolding digits
refused = refl

unknown : dk_refusal_line 846 (UnknownName (codes "e")) ≡ codes "byte 846: UnknownName e\n"
unfolding digits
unknown = refl

ill_typed : ill_typed_line 1 ≡ codes "declaration 1: ill typed\n"
unfolding digits
ill_typed = refl

over_budget : over_budget_line 0 ≡ codes "declaration 0: over budget\n"
unfolding digits
over_budget = refl

not_sequent : not_sequent_line 0 ≡ codes "declaration 0: not a sequent\n"
unfolding digits
not_sequent = refl

unwritable : unwritable_line ≡ codes "article not writable\n"
unwritable = refl
