-- A text is read as a context exactly when it is that context's text, within the bounds; and no text is that of two.
use Prim.Native.Nat.{ℕ, ◌≤◌, max}
use mathlib.Core.Bool.{Bool, true, false, cond}
use mathlib.Core.Path.{◌≡◌, refl, sym, ap, ◌∙◌, subst}
use mathlib.Core.Logic.{◌↔◌}
use mathlib.Core.List.{List, [], ◌∷◌, append-nil}
use lib.ListN.{length}
use lib.Dec.{T, leb, leb→le, le→leb}
use native.Mathlib.Omega.{arith}
use Rattle.contexts.specs.Context.{Context, whole, canonical, written, depth}
use Rattle.contexts.specs.Reader.{Read, failed, got, read, everywhere, where_it_runs, wrong, to_the_end, read_context, IsTextOf}
use Rattle.model.proofs.Booleans.{true_of}
use Rattle.contexts.proofs.Completeness.{read_back, begins}
use Rattle.contexts.proofs.Soundness.{read_off}

end_out : (x : Read) (c : Context) → to_the_end x ≡ where_it_runs c → x ≡ got c []
end_out failed c e = let z : ◌≡◌ {A = ℕ} 0 1 = cc in absurd (omega arith)
end_out (got d []) c e = cc
end_out (got d (x ∷ xs)) c e = let z : ◌≡◌ {A = ℕ} 0 1 = cc in absurd (omega arith)

never_empty : (x : Read) → to_the_end x ≡ everywhere → ⊥
never_empty failed e = let z : ◌≡◌ {A = ℕ} 0 1 = cc in omega arith
never_empty (got d []) e = let z : ◌≡◌ {A = ℕ} 0 1 = cc in omega arith
never_empty (got d (x ∷ xs)) e = let z : ◌≡◌ {A = ℕ} 0 1 = cc in omega arith

read_out : (t : List ℕ) (c : Context) → read_context t ≡ where_it_runs c → IsTextOf c t
unfolding read_context
read_out [] c e = let z : ◌≡◌ {A = ℕ} 0 1 = cc in absurd (omega arith)
read_out (x ∷ xs) c e = go (leb (length (x ∷ xs)) 64) (λ h. leb→le (length (x ∷ xs)) 64 h) e
  where
    go : (b : Bool) → (T b → length (x ∷ xs) ≤ 64) → cond b (to_the_end (read (length (x ∷ xs)) whole 8 (x ∷ xs))) wrong ≡ where_it_runs c → IsTextOf c (x ∷ xs)
    go true h e =
        let o = read_off (length (x ∷ xs)) whole 8 (x ∷ xs) c [] (end_out (read (length (x ∷ xs)) whole 8 (x ∷ xs)) c e) in
        record { shaped = o.shaped; stood = sym (append-nil (written c)) ∙ o.stood; shallow = o.shallow; short = h tt }
    go false h e = let z : ◌≡◌ {A = ℕ} 0 1 = cc in absurd (omega arith)

-- a canonical context's text, read with as much fuel as it has bytes and as many brackets as it has
whole_text : (n b : ℕ) (c : Context) → T (canonical whole c) → depth c ≤ b → length (written c) ≤ n → read n whole b (written c) ≡ got c []
whole_text n b c t h k = ap (read n whole b) (sym (append-nil (written c))) ∙ read_back n whole c b [] t h k (refl, refl, refl)

read_in : (t : List ℕ) (c : Context) → IsTextOf c t → read_context t ≡ where_it_runs c
unfolding read_context
read_in [] c i =
    let b = begins whole c i.shaped in
    absurd (omega (arith, ap length (sym i.stood ∙ b.2)))
read_in (x ∷ xs) c i =
    let e : read (length (x ∷ xs)) whole 8 (x ∷ xs) ≡ got c [] =
    subst (λ (t : List ℕ). read (length t) whole 8 t ≡ got c []) i.stood (whole_text (length (written c)) 8 c i.shaped i.shallow (omega arith)) in
    rw (true_of (leb (length (x ∷ xs)) 64) (le→leb (length (x ∷ xs)) 64 i.short), e) refl

pub read_iff : (t : List ℕ) (c : Context) → (read_context t ≡ where_it_runs c) ↔ IsTextOf c t
read_iff t c = (read_out t c, read_in t c)

pub empty_iff : (t : List ℕ) → (read_context t ≡ everywhere) ↔ (t ≡ [])
unfolding read_context
empty_iff t = (out t, λ e. rw e refl)
  where
    out : (t : List ℕ) → read_context t ≡ everywhere → t ≡ []
    out [] e = refl
    out (x ∷ xs) e = absurd (go (leb (length (x ∷ xs)) 64) e)
      where
        go : (b : Bool) → cond b (to_the_end (read (length (x ∷ xs)) whole 8 (x ∷ xs))) wrong ≡ everywhere → ⊥
        go true e = never_empty (read (length (x ∷ xs)) whole 8 (x ∷ xs)) e
        go false e = let z : ◌≡◌ {A = ℕ} 0 1 = cc in omega arith

-- whatever its length and depth, a text stands for one context
pub unambiguous : (c d : Context) → T (canonical whole c) → T (canonical whole d) → written c ≡ written d → c ≡ d
unambiguous c d s t e =
    let n = length (written c) in
    let b = max (depth c) (depth d) in
    let i = whole_text n b c s (omega arith) (omega arith) in
    let j = whole_text n b d t (omega arith) (omega (arith, ap length e)) in
    let k : got c [] ≡ got d [] = sym i ∙ ap (read n whole b) e ∙ j in
    cc
