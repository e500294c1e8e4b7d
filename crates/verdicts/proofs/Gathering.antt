-- The calls of an input, field by field.
use Rattle.std.proofs.Common.{◌≡◌, ℕ, List, [], ◌∷◌, ◌++◌, map, sym, ap, ◌∙◌, subst, append_assoc}
use Rattle.std.proofs.lemmas.List.{append-nil, map-append}
use Rattle.docket.specs.declared.run.Call.{Call}
use Rattle.docket.specs.Calls.{Laid}
use Rattle.docket.specs.Runs.{laid_by}
use Rattle.inputs.specs.Parts.{FieldsOf, none_left, CutsOff}
use Rattle.verdicts.specs.Laying.{call_of, CallsOf}

-- the fields cut off so far, and the calls that they make
pub record SoFar (bs left : List ℕ) (calls : List Laid) : Type 0 where
  pub fields : List (List ℕ)
  pub made : calls ≡ map call_of fields
  pub on : (fs : List (List ℕ)) → FieldsOf left fs → FieldsOf bs (fields ++ fs)

pub none_so_far : (bs : List ℕ) (calls : List Laid) → calls ≡ [] → SoFar bs bs calls
none_so_far bs calls e = record { fields = []; made = e; on = λ fs f. f }

pub one_more : (bs left f after : List ℕ) (calls new : List Call) (c : Call) → SoFar bs left (map laid_by calls) → CutsOff left f after → new ≡ calls ++ c ∷ [] → laid_by c ≡ call_of f → SoFar bs after (map laid_by new)
one_more bs left f after calls new c far on pushed is =
    record {
      fields = far.fields ++ f ∷ [];
      made =
          ap (map laid_by) pushed ∙ map-append laid_by calls (c ∷ [])
          ∙ (λ i. far.made i ++ is i ∷ [])
          ∙ sym (map-append call_of far.fields (f ∷ []));
      on = λ fs g. subst (FieldsOf bs) (sym (append_assoc far.fields (f ∷ []) fs)) (far.on (f ∷ fs) (on.on fs g));
    }

pub all_cut : (bs left : List ℕ) (calls : List Laid) → SoFar bs left calls → left ≡ [] → CallsOf bs calls
all_cut bs left calls far e =
    record {
      fields = far.fields;
      cut = subst (FieldsOf bs) (append-nil far.fields) (far.on [] (subst (λ (l : List ℕ). FieldsOf l []) (sym e) none_left));
      made = far.made;
    }
