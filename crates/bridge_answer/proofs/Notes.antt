-- The texts on standard error, from the pieces that are written.
use Rattle.std.proofs.Common.{◌≡◌, ℕ, List, [], ◌++◌, codes, refl}
use Rattle.std.specs.Prelude.{decimal}
use Rattle.common.specs.Kinds.{kind_name, kind_number}
use Rattle.common.specs.declared.faults.Kind.{Kind}
use Rattle.std.proofs.lemmas.List.{append-nil}
use Rattle.bridge_spec.specs.Texts.{refusal_line, byte_line, declaration_line}

-- the pieces of a refusal
pub refusal_pieces : (first place name number : List ℕ) (article line : ℕ) (kind : Kind) → first ≡ decimal article → place ≡ decimal line → name
    ≡ kind_name kind → number ≡ decimal (kind_number kind)
    → codes "article " ++ (first ++ (codes " line " ++ (place ++ (codes ": " ++ (name ++ (codes " (" ++ (number ++ codes ")\n")))))))
    ≡ refusal_line article line kind
refusal_pieces first place name number article line kind d e f h = rw (d, e, f, h) refl

-- the pieces of a fault at a byte
pub byte_pieces : (number name blank identifier : List ℕ) (place : ℕ) → number ≡ decimal place
    → codes "byte " ++ (number ++ (codes ": " ++ (name ++ (blank ++ (identifier ++ codes "\n"))))) ≡ byte_line place name blank identifier
byte_pieces number name blank identifier place d = rw d refl

-- the pieces of what is said of a declaration
pub declaration_pieces : (number said : List ℕ) (i : ℕ) → number ≡ decimal i → codes "declaration " ++ (number ++ (said ++ [])) ≡ declaration_line i said
declaration_pieces number said i d = rw (d, append-nil said) refl
