-- What an operation is in plain numbers, and those of entries.
use Rattle.std.specs.Prelude.{List, map}
use Rattle.designs.specs.Forms.{Form}
use Rattle.designs.specs.Forms as forms
use Rattle.designs.specs.declared.entry.Entry.{Entry}
use Rattle.designs.specs.declared.operation.Operation.{Operation}
use Rattle.designs.specs.declared.operation.Operation.TheVariants.{Nil, Prefix, Sum, Parallel, Restrict, Rename, Raise, Lower}

abbrev pub form_of : Operation → Form
form_of Nil = forms.Nil
form_of (Prefix a l) = forms.Prefix a.code l
form_of (Sum l r) = forms.Sum l r
form_of (Parallel l r) = forms.Parallel l r
form_of (Restrict p l) = forms.Restrict p.first p.second l
form_of (Rename x l) = forms.Rename x.class x.from x.to l
form_of (Raise p l) = forms.Raise p.first p.second l
form_of (Lower p l) = forms.Lower p.first p.second l

abbrev pub forms_in : List Entry → List Form
forms_in es = map (λ e. form_of e.operation) es
