-- The parts of the index of forms.
use Prim.Native.Nat.{ℕ, ◌+◌, ◌-◌, ◌<◌, ◌≤◌}
use native.Mathlib.Omega.{arith}
use mathlib.Core.Path.{◌≡◌, sym, ◌∙◌, subst}
use mathlib.Core.List.{List}
use lib.ListN.{length, get_or, take, drop, length-take, length-drop}
use lib.Seq.{length-take-le, get_or-take, get_or-drop}
use Rattle.model.specs.Lists.{byte}
use Rattle.model.specs.Blocks.{header}
use Rattle.model.specs.Lexicon.{first_entry, entry_count}
use Rattle.forms.specs.Slots.{Slotted}
use Rattle.forms.specs.Forms.{slots_in, shared_in, skips_in, FormsOf}

-- the slots of a lexicon, by its range
pub slotted : {image forms : List ℕ} {low high : ℕ} → FormsOf image forms → (x : ℕ) → x < (header image).lexicons → low ≡ first_entry image x
    → high ≡ first_entry image x + entry_count image x → {slots shared skips : List ℕ} → slots ≡ slots_in forms → shared ≡ shared_in forms
    → skips ≡ skips_in forms → Slotted image slots shared skips low high
slotted {image} {forms} {low} {high} f x inside e1 e2 {slots} {shared} {skips} a b c =
    subst (λ (l : List ℕ). Slotted image l shared skips low high) (sym a)
    (subst (λ (l : List ℕ). Slotted image (slots_in forms) l skips low high) (sym b)
    (subst (λ (l : List ℕ). Slotted image (slots_in forms) (shared_in forms) l low high) (sym c)
    (subst (λ (n : ℕ). Slotted image (slots_in forms) (shared_in forms) (skips_in forms) n high) (sym e1)
    (subst (λ (n : ℕ). Slotted image (slots_in forms) (shared_in forms) (skips_in forms) (first_entry image x) n) (sym e2) (f.slotted x inside)))))

-- a byte of a part
pub part_byte : (l : List ℕ) (from n k : ℕ) → k < n → byte l (from + k) ≡ byte (take n (drop from l)) k
part_byte l from n k h = sym (get_or-take n (drop from l) k 0 h ∙ get_or-drop from l k 0)

-- a byte of a part that begins here and has so many, as the code takes it
pub part_item : (l : List ℕ) (from many k : ℕ) → k < length (take ((from + many) - from) (drop from l))
    → (k < many) × (get_or (take ((from + many) - from) (drop from l)) k 0 ≡ byte l (from + k))
part_item l from many k h =
    let inside : k < (from + many) - from = omega (arith, h, length-take ((from + many) - from) (drop from l)) in
    (omega arith, get_or-take ((from + many) - from) (drop from l) k 0 inside ∙ get_or-drop from l k 0)

pub part_long : (l : List ℕ) (from n : ℕ) → from + n ≤ length l → length (take n (drop from l)) ≡ n
part_long l from n h = length-take-le n (drop from l) (omega (arith, length-drop from l))
