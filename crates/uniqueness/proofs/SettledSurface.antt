-- No second answer meets the contract of a public function of crate `surface`. Written by tools/settle from the contracts. Assumes nothing.
use Rattle.laws.proofs.Choices.{settled}
use Rattle.point.specs.declared.TotalVariance.{TotalVariance}
use Rattle.refusals.proofs.Numbers.{one_answer, one_check}
use Rattle.refusals.specs.Numbers.{number_in, numbered}
use Rattle.refusals.specs.declared.Refusal.{Refusal}
use Rattle.slice.specs.declared.SviSlice.{SviSlice}
use Rattle.std.specs.Prelude.{Bool, Float, List, Result, ⊤, ◌≡◌}
use Rattle.surface.specs.Axis.{grid_number, held_of, rising_of}
use Rattle.surface.specs.Lookup.{bracket_of, default_policy}
use Rattle.surface.specs.Runs.{check_run, run_of}
use Rattle.surface.specs.Surface.{bracket_run, covers_run, nodes_of, region_run, surface_grid_number, total_run, variance_at}
use Rattle.surface.specs.declared.types.Bracket.{Bracket}
use Rattle.surface.specs.declared.types.Nodes.{Nodes}
use Rattle.surface.specs.declared.types.Region.{Region}
use Rattle.surface.specs.declared.types.Run.{Run}
use Rattle.surface.specs.declared.types.ShortExpiryPolicy.{ShortExpiryPolicy}

-- surface::Run::total_variance
pub Run-total_variance : (self : Run) (nodes : Nodes) (policy : ShortExpiryPolicy) (k : Float) (tau : Float) {r₁ r₂ : Result TotalVariance Refusal} → (numbered r₁ ≡ variance_at self.recs nodes.taus nodes.tols nodes.count policy k tau) → (numbered r₂ ≡ variance_at self.recs nodes.taus nodes.tols nodes.count policy k tau) → r₁ ≡ r₂
Run-total_variance self nodes policy k tau h₁ h₂ = one_answer h₁ h₂

-- surface::bracket_run
pub bracket_run_lem : (run : Run) (policy : ShortExpiryPolicy) (k : Float) (tau : Float) {r₁ r₂ : Result Bracket Refusal} → (numbered r₁ ≡ bracket_run run policy k tau) → (numbered r₂ ≡ bracket_run run policy k tau) → r₁ ≡ r₂
bracket_run_lem run policy k tau h₁ h₂ = one_answer h₁ h₂

-- surface::region_run
pub region_run_lem : (run : Run) (policy : ShortExpiryPolicy) (k : Float) (tau : Float) {r₁ r₂ : Result Region Refusal} → (numbered r₁ ≡ region_run run policy k tau) → (numbered r₂ ≡ region_run run policy k tau) → r₁ ≡ r₂
region_run_lem run policy k tau h₁ h₂ = one_answer h₁ h₂

-- surface::total_variance_run
pub total_variance_run : (run : Run) (policy : ShortExpiryPolicy) (k : Float) (tau : Float) {r₁ r₂ : Result TotalVariance Refusal} → (numbered r₁ ≡ total_run run policy k tau) → (numbered r₂ ≡ total_run run policy k tau) → r₁ ≡ r₂
total_variance_run run policy k tau h₁ h₂ = one_answer h₁ h₂

-- surface::check_entry
pub check_entry : (run : Run) (k : List Float) (tau : List Float) {r₁ r₂ : Result ⊤ Refusal} → (number_in r₁ ≡ surface_grid_number run k tau) → (number_in r₂ ≡ surface_grid_number run k tau) → r₁ ≡ r₂
check_entry run k tau h₁ h₂ = one_check h₁ h₂

-- surface::covers_run
pub covers_run_lem : (run : Run) (k : List Float) (tau : List Float) {r₁ r₂ : Result Bool Refusal} → (numbered r₁ ≡ covers_run run k tau) → (numbered r₂ ≡ covers_run run k tau) → r₁ ≡ r₂
covers_run_lem run k tau h₁ h₂ = one_answer h₁ h₂

-- surface::rising
pub rising : (v : List Float) {r₁ r₂ : Bool} → (r₁ ≡ rising_of v) → (r₂ ≡ rising_of v) → r₁ ≡ r₂
rising v h₁ h₂ = settled h₁ h₂

-- surface::check_axes
pub check_axes : (k : List Float) (tau : List Float) {r₁ r₂ : Result ⊤ Refusal} → (number_in r₁ ≡ grid_number k tau) → (number_in r₂ ≡ grid_number k tau) → r₁ ≡ r₂
check_axes k tau h₁ h₂ = one_check h₁ h₂

-- surface::holds
pub holds : (v : List Float) (x : Float) {r₁ r₂ : Bool} → (r₁ ≡ held_of v x) → (r₂ ≡ held_of v x) → r₁ ≡ r₂
holds v x h₁ h₂ = settled h₁ h₂

-- surface::copied
pub copied : (s : List SviSlice) {r₁ r₂ : Run} → (r₁ ≡ run_of s) → (r₂ ≡ run_of s) → r₁ ≡ r₂
copied s h₁ h₂ = settled h₁ h₂

-- surface::Nodes::of
pub Nodes-of : (run : Run) {r₁ r₂ : Nodes} → (r₁ ≡ nodes_of run) → (r₂ ≡ nodes_of run) → r₁ ≡ r₂
Nodes-of run h₁ h₂ = settled h₁ h₂

-- surface::Nodes::bracket
pub Nodes-bracket : (self : Nodes) (policy : ShortExpiryPolicy) (k : Float) (tau : Float) {r₁ r₂ : Result Bracket Refusal} → (numbered r₁ ≡ bracket_of self.taus self.tols self.count policy k tau) → (numbered r₂ ≡ bracket_of self.taus self.tols self.count policy k tau) → r₁ ≡ r₂
Nodes-bracket self policy k tau h₁ h₂ = one_answer h₁ h₂

-- surface::check_run
pub check_run_lem : (run : Run) {r₁ r₂ : Result ⊤ Refusal} → (number_in r₁ ≡ check_run run) → (number_in r₂ ≡ check_run run) → r₁ ≡ r₂
check_run_lem run h₁ h₂ = one_check h₁ h₂

-- surface::ShortExpiryPolicy::default
pub ShortExpiryPolicy-default : {r₁ r₂ : ShortExpiryPolicy} → (r₁ ≡ default_policy) → (r₂ ≡ default_policy) → r₁ ≡ r₂
ShortExpiryPolicy-default h₁ h₂ = settled h₁ h₂
