-- What an error of one part of a text says of the whole.
use Rattle.std.proofs.Common.{◌≡◌, ℕ, true, false, cond, List, ◌∷◌, ◌++◌, Ok, Err, ap, ◌∙◌}
use Rattle.std.specs.Prelude.{Result, codes}
use Rattle.edit_terms.specs.StateText.{TextFault, BadName, is_block_name, with_namespace, opening, cut_at, listed_in, state_listed, state_in, state_reading, sorted_properties}
use Rattle.block_state.specs.declared.fault.StateFault.{StateFault}
use Rattle.block_state.specs.declared.fault.StateFault.TheVariants as faults
use Rattle.block_state.specs.Read.{IsFault, name_reading}

-- the same error stands for the fault of the whole, where each fault of the part is one of the whole
pub fault_on : {A B : Type 0} (part : Result A TextFault) (whole : Result B TextFault) (fault : StateFault) → ((x : TextFault) → part ≡ Err x → whole ≡ Err x) → IsFault part fault → IsFault whole fault
fault_on part whole faults.BadName on h = on _ h
fault_on part whole faults.BadProperty on h = on _ h
fault_on part whole faults.RepeatedKey on h = on _ h
fault_on part whole faults.TooManyProperties on h = on _ h
fault_on part whole faults.Memory on h = h

-- a fault behind a good name is the text's
pub listed_fault : (text name : List ℕ) (pieces : List (List ℕ)) (n : List ℕ) → cut_at opening text ≡ name ∷ pieces → name_reading name ≡ Ok n → (x : TextFault) → listed_in pieces ≡ Err x → state_reading text ≡ Err x
listed_fault text name pieces n cut named x h =
    ap state_in cut
    ∙ elim (is_block_name (with_namespace name)) as (λ b. cond b (Ok (with_namespace name)) (Err BadName) ≡ Ok n → cond b (state_listed (with_namespace name) (listed_in pieces)) (Err BadName) ≡ Err x) [
      | true ↦ λ _. ap (state_listed (with_namespace name)) h
      | false ↦ λ e. absurd cc
    ] named

-- properties are read as those of a state of any name
pub state_of_listed : (rest : List ℕ) (listed : List (List ℕ × List ℕ)) → listed_in (cut_at opening rest) ≡ Ok listed → state_reading (codes "a[" ++ rest) ≡ Ok (record { name = codes "minecraft:a"; properties = sorted_properties listed })
state_of_listed rest listed h = ap (state_listed (codes "minecraft:a")) h
