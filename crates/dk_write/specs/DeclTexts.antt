-- What is written of a declaration behind so many others of a module, and of its body.
use Rattle.std.specs.Prelude.{ℕ, take, List, Option, option_map}
use Rattle.lp_spec.specs.ShortNames.{shortened, shortened_declaration}
use Rattle.lp_spec.specs.Text.{body_text, declaration_text}
use Rattle.lp_term.specs.declared.LpId.{LpId}
use Rattle.lp_term.specs.Tables.{tree_at}
use Rattle.holide_sig.specs.declared.module.Module.{Module}
use Rattle.holide_sig.specs.Modules.{declaration_in, declarations_of}
use Rattle.dk_write.specs.declared.Bounded.{Bounded}

abbrev pub decl_text : Module → ℕ → Bounded → List ℕ
decl_text m before line =
    declaration_text (declarations_of m) (shortened_declaration (take before (declarations_of m)) (declaration_in m.table line.decl.now)) line.bound

abbrev pub decl_body_text : Module → ℕ → Option LpId → List ℕ
decl_body_text m before body =
    body_text (declarations_of m) (option_map (shortened (take before (declarations_of m))) (option_map (λ id. tree_at m.table id.0) body))
