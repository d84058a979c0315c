-- How many declarations have no body.
use Rattle.std.proofs.Common.{◌≡◌, ◌+◌, ℕ, take, Option, None, Some, Bool, true, false, refl, ap, ◌∙◌}
use Rattle.std.specs.Prelude.{slice_get, count_by, is_some, is_none, not, option_map}
use Rattle.std.proofs.lemmas.List.Sums.{count_by_more_yes, count_by_more_no}
use Rattle.std.proofs.lemmas.Option.{slice_get_within, slice_get-map, get_or_from_slice_get}
use Rattle.lp_spec.specs.Modules.{Declaration}
use Rattle.holide_sig.specs.declared.decls.Decl.{Decl}
use Rattle.holide_sig.specs.declared.module.Module.{Module}
use Rattle.holide_sig.specs.Modules.{declaration_in, declarations_of}

-- a declaration without a body
abbrev pub is_unproved : Declaration → Bool
is_unproved d = is_none d.body

-- how many of the first declarations have no body
abbrev pub unproved_before : ℕ → Module → ℕ
unproved_before i m = count_by is_unproved (take i (declarations_of m))

is_none-map : {A B : Type 0} (f : A → B) (o : Option A) → is_none (option_map f o) ≡ is_none o
is_none-map f None = refl
is_none-map f (Some x) = refl

-- what a test for no body says
pub none_by : {A : Type 0} (o : Option A) (b c : Bool) → is_some o ≡ not b → b ≡ c → is_none o ≡ c
none_by None true c e h = h
none_by (Some x) false c e h = h
none_by None false c e h = cc
none_by (Some x) true c e h = cc

module _ (m : Module) (i : ℕ) (d : Decl) (at : slice_get m.decls i ≡ Some d) where
  there : slice_get (declarations_of m) i ≡ Some (declaration_in m.table d)
  there = slice_get-map (declaration_in m.table) m.decls i ∙ ap (option_map (declaration_in m.table)) at

  same : (b : Bool) → is_none d.body ≡ b → is_unproved (declaration_in m.table d) ≡ b
  same b e = is_none-map _ d.body ∙ e

  pub unproved-more : is_none d.body ≡ true → unproved_before (i + 1) m ≡ unproved_before i m + 1
  unproved-more e =
      let x = declaration_in m.table d in
      count_by_more_yes is_unproved (declarations_of m) i x (slice_get_within (declarations_of m) i x there)
      (ap is_unproved (get_or_from_slice_get (declarations_of m) i x x there) ∙ same true e)

  pub unproved-same : is_none d.body ≡ false → unproved_before (i + 1) m ≡ unproved_before i m
  unproved-same e =
      let x = declaration_in m.table d in
      count_by_more_no is_unproved (declarations_of m) i x (slice_get_within (declarations_of m) i x there)
      (ap is_unproved (get_or_from_slice_get (declarations_of m) i x x there) ∙ same false e)
