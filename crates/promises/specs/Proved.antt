-- Each statement of the page has its line here.
pub mod PlanFile
pub mod PlanCall
pub mod DeepCall
pub mod Departure
pub mod TwoCars
pub mod TreeCount
pub mod Distances
pub mod Judging
pub mod OpenPlan
pub mod Districts
pub mod Exports
pub mod ExportedRuns
