-- The definitions, in document 01's order, then the calls that came later: what a reader has to believe.
pub mod Lists
pub mod Plan
pub mod BitField
pub mod Refusal
pub mod PlanFile
pub mod Drive
pub mod Required
pub mod Distance
pub mod FewestPath
pub mod Link
pub mod Component
pub mod Arborescence
pub mod Balancing
pub mod Description
pub mod LagrangianBound
pub mod PlanCall
pub mod TreeCount
pub mod Guarantee
pub mod DistanceCall
pub mod Judge
pub mod Windows
pub mod Marks
pub mod OpenPlan
pub mod Renumbering
pub mod Districts
pub mod DistrictRuns
-- Words of the contracts of steps.
pub mod Steps
-- What is proved about them.
pub mod Laws
pub mod Cases
